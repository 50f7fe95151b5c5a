-- The sessions of passes.
use Rattle.std.specs.Prelude.{ℕ, List, map}
use Rattle.cat_threads.specs.service.Passes.{Seen}

-- those of passes that come back
abbrev pub sessions_back : List Seen → List ℕ
sessions_back passes = map (λ p. p.session) passes

-- those of passes with what is done with them
abbrev pub sessions_of : {C : Type 0} → List (Seen × C) → List ℕ
sessions_of sessions = map (λ s. s.0.session) sessions
