-- The rights to views that a ledger grants, and that are given back.
use Rattle.std.specs.Prelude.{None, Option, Some, false, find, true, ℕ, ◌==◌, ◌≡◌}
use Rattle.cat_ledger_laws.specs.shape.Shapes.{Shape}
use Rattle.cat_model.specs.Run.{greatest}
use Rattle.cat_model.specs.State.{has_hold}
use Rattle.std.specs.List.{list_any}
use Rattle.cat_ledger.specs.declared.views.Grant.{Grant}
use Rattle.cat_ledger.specs.declared.views.Released.{Released}
use Rattle.cat_ledger_laws.specs.shape.Steps.{tokens_of}

-- the token that is asked for: one that a view has, or the newest one's
abbrev pub IsAsked : Shape → Option ℕ → ℕ → Type 0
IsAsked s None t = t ≡ greatest (tokens_of s.views)
IsAsked s (Some u) t = (t ≡ u) × (list_any (λ v. v.token == u) s.views ≡ true)

-- the token that is granted
abbrev pub token_granted : Grant → ℕ
token_granted (Grant.New hold) = hold.view.token
token_granted (Grant.Already t) = t

-- A right to the view that is recorded under its token, where the session held none; or none, where it holds the token.
abbrev pub IsGrant : Shape → ℕ → Grant → Type 0
IsGrant s session (Grant.New hold) = (hold.session ≡ session) × (has_hold s.holds session hold.view.token ≡ false)
    × (find (λ v. v.token == hold.view.token) s.views ≡ Some hold.view)
IsGrant s session (Grant.Already t) = has_hold s.holds session t ≡ true

-- the session that gave a right back, and its token
abbrev pub released_session : Released → ℕ
released_session r = r.session

abbrev pub released_token : Released → ℕ
released_token r = r.token
