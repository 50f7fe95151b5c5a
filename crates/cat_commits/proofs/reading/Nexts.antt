-- The numbers above those of names, name by name.
use Rattle.std.proofs.Common.{◌≡◌, ℕ, ◌<◌, ◌≤◌, ◌+◌, List, length, get_or, sym, ap, ◌∙◌, subst, arith, inl, inr}
use Rattle.std.specs.Prelude.{max, ◌↔◌}
use Rattle.std.specs.List.{AllWithin}
use Rattle.std.proofs.lemmas.Bool.Decides.{eqb_tells}
use Rattle.std.proofs.lemmas.List.{get_or_default}
use Rattle.std.proofs.Math.Nat.{le-max_left, le-max_right, max-le}
use Rattle.cat_directory.specs.declared.name.FileName.{FileName}
use Rattle.cat_directory.specs.Names.{name_of}
use Rattle.cat_ledger_laws.specs.model.Ledger.{IsPast}

-- what holds of the names before an index, and of the one there, holds up to it
pub up_to : (P : FileName → Type 0) (names : List FileName) (i : ℕ) (d : FileName) → i < length names → AllWithin P names 0 i → P (get_or names i d) → AllWithin P names 0 (i + 1)
up_to P names i d within low own = λ k e z lt. elim (eqb_tells k i) [
  | inl same ↦ subst P (get_or_default names i d e within ∙ ap (λ (j : ℕ). get_or names j e) (sym same.1)) own
  | inr other ↦ low k e (omega arith) (omega (arith, other.1))
]

pub least_more : (names : List FileName) (i : ℕ) (q : FileName) (s g n d x y : ℕ) → i < length names
    → ((m h : ℕ) → 1 ≤ m → 1 ≤ h → (IsPast m h (name_of (get_or names i q)) ↔ ((n ≤ m) × (d ≤ h))))
    → ((m h : ℕ) → 1 ≤ m → 1 ≤ h → (AllWithin (λ q. IsPast m h (name_of q)) names 0 i ↔ ((s ≤ m) × (g ≤ h))))
    → x ≡ max n s → y ≡ max d g
    → (m h : ℕ) → 1 ≤ m → 1 ≤ h → (AllWithin (λ q. IsPast m h (name_of q)) names 0 (i + 1) ↔ ((x ≤ m) × (y ≤ h)))
least_more names i q s g n d x y within one before es eg m h a b = (
  λ all.
      let low = (before m h a b).0 (λ k e z lt. all k e z (omega arith)) in
      let own = (one m h a b).0 (all i q (omega arith) (omega arith)) in
      let top : max n s ≤ m = max-le own.0 low.0 in
      let end : max d g ≤ h = max-le own.1 low.1 in
      (omega (arith, es, top), omega (arith, eg, end)),
  λ under.
      let low = (before m h a b).1 (omega (arith, es, under.0, le-max_right n s), omega (arith, eg, under.1, le-max_right d g)) in
      let own = (one m h a b).1 (omega (arith, es, under.0, le-max_left n s), omega (arith, eg, under.1, le-max_left d g)) in
      up_to (λ q. IsPast m h (name_of q)) names i q within low own,
)
