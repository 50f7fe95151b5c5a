-- What is tested of the rows' ordinals.
use Rattle.std.proofs.Common.{◌≡◌, ℕ, suc, ◌+◌, ◌-◌, ◌<◌, ◌≤◌, List, [], ◌∷◌, length, get_or, take, drop, sym, ap, ◌∙◌, arith, subst}
use Rattle.std.proofs.lemmas.List.{take_all}
use Rattle.std.proofs.lemmas.List.Elements.{All-more, All-same}
use Rattle.std.specs.List.Sorted.{IsStrictlyIncreasing}
use Rattle.std.specs.Prelude.{All}
use Rattle.cat_model.specs.Layout.{pieces, AreEnds}
use Rattle.cat_columns.proofs.Cuts.{length-pieces, get_or-pieces, part_within}

module _ (ends ordinals : List ℕ) (parts : AreEnds 0 ends (length ordinals)) where
  pub row_bounds : (row from : ℕ) → row < length ends → from ≡ get_or (0 ∷ ends) row 0 → (from ≤ get_or ends row 0) × (get_or ends row 0 ≤ length ordinals)
  row_bounds row from lt at =
      let within = part_within 0 ends (length ordinals) row parts lt in
      let low = within.0 in
      let high = within.1 in (omega arith, high)

  row_piece : (row from : ℕ) → row < length ends → from ≡ get_or (0 ∷ ends) row 0 → get_or (pieces 0 ends ordinals) row [] ≡ take (get_or ends row 0 - from) (drop from ordinals)
  row_piece row from lt at = get_or-pieces 0 ends ordinals row lt ∙ ap (λ k. take (get_or ends row 0 - k) (drop k ordinals)) (sym at)

  pub row_more : (row from : ℕ) → row < length ends → from ≡ get_or (0 ∷ ends) row 0 → All IsStrictlyIncreasing (take row (pieces 0 ends ordinals))
      → IsStrictlyIncreasing (take (get_or ends row 0 - from) (drop from ordinals)) → All IsStrictlyIncreasing (take (row + 1) (pieces 0 ends ordinals))
  row_more row from lt at before rise =
      let long : length (pieces 0 ends ordinals) ≡ length ends = length-pieces 0 ends ordinals in
      All-more IsStrictlyIncreasing (pieces 0 ends ordinals) row [] (omega arith) before (subst (λ (l : List ℕ). IsStrictlyIncreasing l) (sym (row_piece row from lt at)) rise)

  pub row_of : (row from : ℕ) → row < length ends → from ≡ get_or (0 ∷ ends) row 0 → All IsStrictlyIncreasing (pieces 0 ends ordinals)
      → IsStrictlyIncreasing (take (get_or ends row 0 - from) (drop from ordinals))
  row_of row from lt at all =
      let long : length (pieces 0 ends ordinals) ≡ length ends = length-pieces 0 ends ordinals in
      subst (λ (l : List ℕ). IsStrictlyIncreasing l) (row_piece row from lt at) (all row [] (omega arith))

  pub rows_all : (row : ℕ) → length ends ≤ row → All IsStrictlyIncreasing (take row (pieces 0 ends ordinals)) → All IsStrictlyIncreasing (pieces 0 ends ordinals)
  rows_all row le all =
      let long : length (pieces 0 ends ordinals) ≡ length ends = length-pieces 0 ends ordinals in
      All-same IsStrictlyIncreasing (pieces 0 ends ordinals) (take row (pieces 0 ends ordinals)) (sym (take_all row (pieces 0 ends ordinals) (omega arith))) all

pub next_start : (ends : List ℕ) (row : ℕ) → get_or ends row 0 ≡ get_or (0 ∷ ends) (row + 1) 0
next_start ends row = let next : suc row ≡ row + 1 = omega arith in ap (λ k. get_or (0 ∷ ends) k 0) next

-- all ends lie below a bound, and so does the total
pub total_below : (bound n : ℕ) (ends : List ℕ) (total : ℕ) → AreEnds n ends total → n < bound → ((k : ℕ) → get_or ends k 0 < bound) → total < bound
total_below bound n [] total is lt below = omega (arith, is)
total_below bound n (e ∷ es) total is lt below = total_below bound e es total is.1 (below 0) (λ k. below (suc k))
