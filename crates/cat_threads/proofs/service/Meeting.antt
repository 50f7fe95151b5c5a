-- What two callers that meet are told: both have the longer list afterwards, and the greater token.
use Rattle.std.proofs.Common.{◌≡◌, ℕ, ◌+◌, ◌≤◌, Bool, true, false, nat_le, if◌then◌else◌, List, length, inl, inr, refl, sym, ap, ◌∙◌, subst, arith}
use Rattle.std.proofs.lemmas.Bool.Decides.{nat_tests}
use mathlib.Core.List.{IsPrefix}
use Rattle.cat_threads.specs.history.Entries.{LogEntry}
use Rattle.cat_threads.specs.history.Rules.{Sight, caller, old_of, note_of, longer, greater, Compared}
use Rattle.cat_threads.specs.service.Passes.{AreOne, Seen}
use Rattle.cat_threads.proofs.history.Lists.{prefix_length}
use Rattle.cat_threads.proofs.service.Passed.{seen}

one_begins : (xs ys : List LogEntry) → IsPrefix xs (longer xs ys) → IsPrefix ys (longer xs ys) → AreOne xs ys
one_begins xs ys = go (nat_le (length xs) (length ys))
  where
    go : (b : Bool) → IsPrefix xs (if b then ys else xs) → IsPrefix ys (if b then ys else xs) → AreOne xs ys
    go true p q = inl p
    go false p q = inr q

-- of two lists one begins the other
pub are_one : (start s t : ℕ) (a b now : Sight) (x y : Seen) → seen start s a ≡ x → seen start t b ≡ y → now.list ≡ longer a.list b.list
    → Compared now (old_of a) → Compared now (old_of (note_of b)) → AreOne x.list y.list
are_one start s t a b now x y is also list p q =
    subst (λ (u : Seen). AreOne u.list y.list) is
    (subst (λ (u : Seen). AreOne a.list u.list) also
    (one_begins a.list b.list (subst (λ l. IsPrefix a.list l) list p.begins) (subst (λ l. IsPrefix b.list l) list q.begins)))

longer_ended : (xs ys : List LogEntry) → IsPrefix xs ys → longer xs ys ≡ ys
longer_ended xs ys p = go (nat_le (length xs) (length ys)) refl
  where
    go : (b : Bool) → nat_le (length xs) (length ys) ≡ b → (if b then ys else xs) ≡ ys
    go true e = refl
    go false e = let short : length xs ≤ length ys = prefix_length xs ys p in absurd (grind (arith, nat_tests, e, short))

greater_ended : (m n : ℕ) → m ≤ n → greater m n ≡ n
greater_ended m n le = go (nat_le m n) refl
  where
    go : (b : Bool) → nat_le m n ≡ b → (if b then n else m) ≡ n
    go true e = refl
    go false e = absurd (grind (arith, nat_tests, e, le))

-- the second takes what the first then has
pub have_met : (start : ℕ) (b first second : Sight) → Compared first (old_of (note_of b)) → second ≡ caller (longer b.list first.list) (greater b.token first.token) b.own
    → (first.list ≡ second.list) × (start + first.token ≡ start + second.token)
have_met start b first second q is = (
  sym (ap (λ (x : Sight). x.list) is ∙ longer_ended b.list first.list q.begins),
  ap (λ (k : ℕ). start + k) (sym (ap (λ (x : Sight). x.token) is ∙ greater_ended b.token first.token q.below)),
)
