-- Where among rows in order the numbers change: the places are marked one after another.
use Rattle.std.proofs.Common.{◌≡◌, ◌<◌, ◌≤◌, ◌+◌, ◌∙◌, inl, inr, ℕ, ℤ, List, length, set, replicate, Option, Bool, true, false, subst, sym, arith}
use Rattle.std.proofs.lemmas.Bool.{cases_eq}
use Rattle.std.proofs.lemmas.List.{get_or-replicate, get_or-set_other, get_or-set_same, length-replicate, length-set}
use Rattle.cat_model.specs.RowSets.{has_row}
use Rattle.cat_segment.specs.NumberRuns.{AreRunEnds, changes_behind}

-- the places before this one are judged, and no other is marked
pub record EndsBefore (values : List (Option ℤ)) (rows : List ℕ) (ends : List Bool) (next : ℕ) : Type 0 where
  pub long : length ends ≡ length rows
  pub told : (place : ℕ) → place < next → has_row ends place ≡ changes_behind values rows place
  pub clear : (place : ℕ) → next ≤ place → place < length rows → has_row ends place ≡ false

module _ (values : List (Option ℤ)) (rows : List ℕ) where
  pub ends_none : EndsBefore values rows (replicate (length rows) false) 0
  ends_none = record {
    long = length-replicate (length rows) false;
    told = λ place lt. absurd (omega (arith, lt));
    clear = λ place le lt. get_or-replicate (length rows) place false false lt;
  }

  pub ends_kept : (ends : List Bool) (next : ℕ) → EndsBefore values rows ends next → next < length rows → changes_behind values rows next ≡ false
      → EndsBefore values rows ends (next + 1)
  ends_kept ends next are within same = record {
    long = are.long;
    told = λ place lt. elim (cases_eq place next) [
      | inl here ↦ are.clear place (omega (arith, here)) (omega (arith, here, within)) ∙ subst (λ n. false ≡ changes_behind values rows n) (sym here) (sym same)
      | inr other ↦ are.told place (omega (arith, lt, other))
    ];
    clear = λ place le lt. are.clear place (omega (arith, le)) lt;
  }

  pub ends_marked : (ends : List Bool) (next : ℕ) → EndsBefore values rows ends next → next < length rows → changes_behind values rows next ≡ true
      → EndsBefore values rows (set ends next true) (next + 1)
  ends_marked ends next are within apart = record {
    long = length-set ends next true ∙ are.long;
    told = λ place lt. elim (cases_eq place next) [
      | inl here ↦
          subst (λ n. has_row (set ends next true) n ≡ changes_behind values rows n) (sym here)
          (get_or-set_same ends next true false (omega (arith, within, are.long)) ∙ sym apart)
      | inr other ↦ get_or-set_other ends next place true false other ∙ are.told place (omega (arith, lt, other))
    ];
    clear = λ place le lt. get_or-set_other ends next place true false (λ e. omega (arith, e, le)) ∙ are.clear place (omega (arith, le)) lt;
  }

  pub ends_all : (ends : List Bool) (next : ℕ) → EndsBefore values rows ends next → length rows ≤ next + 1 → AreRunEnds values rows ends
  ends_all ends next are all = record { long = are.long; told = λ place lt. are.told place (omega (arith, lt, all)) }
