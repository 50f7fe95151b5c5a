-- What is kept of each thread is kept of the list, and threads are started in the order of their sessions.
use Rattle.std.proofs.Common.{◌≡◌, ℕ, suc, ◌+◌, ◌<◌, List, [], ◌∷◌, ◌++◌, map, length, refl, sym, ap, ◌∙◌, append_assoc, arith}
use Rattle.std.specs.Prelude.{slice_index_or}
use Rattle.cat_threads.specs.running.Sessions.{sessions_of}
use Rattle.cat_threads.specs.service.Passes.{Seen}
use Rattle.cat_threads.proofs.service.Passed.{map-snoc}

pub all_kept : {H D : Type 0} (number : H → ℕ) (session : D → ℕ) (hs : List H) (ds : List D) → length ds ≡ length hs
    → ((i : ℕ) (d : D) → i < length hs → (h : H) × (h ≡ slice_index_or hs i h) × (session (slice_index_or ds i d) ≡ number h))
    → map session ds ≡ map number hs
all_kept number session [] [] len each = refl
all_kept number session [] (d ∷ ds) len each = absurd (omega arith)
all_kept number session (h ∷ hs) [] len each = absurd (omega arith)
all_kept number session (h ∷ hs) (d ∷ ds) len each =
    let first = each 0 d (omega arith) in
    let head : session d ≡ number h = first.2 ∙ ap number first.1 in
    let rest = all_kept number session hs ds (omega arith) (λ i x lt. each (suc i) x (omega arith)) in
    (λ k. head k ∷ rest k)

-- one more thread was started, of the session that came next
pub started_more : {H C : Type 0} (number : H → ℕ) (hs more : List H) (h : H) (before rest : List (Seen × C)) (s : Seen × C) (all : List ℕ)
    → map number hs ++ sessions_of before ≡ all → before ≡ s ∷ rest → more ≡ hs ++ h ∷ [] → number h ≡ s.0.session → map number more ++ sessions_of rest ≡ all
started_more {H} {C} number hs more h before rest s all is next pushed same =
    ap (λ (l : List H). map number l ++ sessions_of rest) pushed
    ∙ (ap (λ (l : List ℕ). l ++ sessions_of rest) (map-snoc number hs h)
    ∙ (append_assoc (map number hs) (number h ∷ []) (sessions_of rest)
    ∙ (ap (λ (k : ℕ). map number hs ++ k ∷ sessions_of rest) same ∙ (ap (λ (l : List (Seen × C)). map number hs ++ sessions_of l) (sym next) ∙ is))))
