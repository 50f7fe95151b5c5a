-- The records that are read from files with the sources of a view's segments.
use Rattle.std.proofs.Common.{◌≡◌, ℕ, ◌+◌, ◌≤◌, List, [], ◌∷◌, ◌++◌, length, map, take, drop, sum, Bool, true, false, refl, ◌∙◌, ap, ap₂, arith}
use Rattle.std.specs.List.{flat_map, AllByRecursion}
use Rattle.std.proofs.lemmas.List.{map-append, length-drop, length-take-le}
use Rattle.std.proofs.lemmas.List.Elements.{recursion_from_All}
use Rattle.std.proofs.lemmas.List.Sums.{sum_by-cons}
use Rattle.cat_model.specs.View.{Row, Leaf, row_of, live_rows, selected, sourced}
use Rattle.cat_model.specs.ViewLaws.{SourcesAreShown}

pub selected-map : {A B : Type 0} (f : A → B) (bs : List Bool) (xs : List A) → map f (selected bs xs) ≡ selected bs (map f xs)
selected-map f [] xs = refl
selected-map f (b ∷ bs) [] = refl
selected-map f (true ∷ bs) (x ∷ xs) = ap (λ l. f x ∷ l) (selected-map f bs xs)
selected-map f (false ∷ bs) (x ∷ xs) = selected-map f bs xs

-- the rows of the records that are read from bytes which are long enough are the rows that were read
pub rows-sourced : (rows : List Row) (bytes : List ℕ) → sum (map (λ (r : Row). r.length) rows) ≤ length bytes → map row_of (sourced rows bytes) ≡ rows
rows-sourced [] bytes h = refl
rows-sourced (row ∷ rows) bytes h =
    let all : row.length + sum (map (λ (r : Row). r.length) rows) ≤ length bytes = omega (arith, h, sum_by-cons (λ n. n) row.length (map (λ (r : Row). r.length) rows)) in
    let first : length (take row.length bytes) ≡ row.length = length-take-le row.length bytes (omega (arith, all)) in
    let others : map row_of (sourced rows (drop row.length bytes)) ≡ rows = rows-sourced rows (drop row.length bytes) (omega (arith, all, length-drop row.length bytes)) in
    ap₂ (λ (n : ℕ) (rs : List Row). record row { length = n } ∷ rs) first others

module _ (files : ℕ → List ℕ) where
  leaves_shown : (leaves : List Leaf) → AllByRecursion (λ (leaf : Leaf). sum (map (λ (r : Row). r.length) leaf.segment.rows) ≤ length (files leaf.segment.number)) leaves
      → map row_of (flat_map (λ leaf. selected leaf.live (sourced leaf.segment.rows (files leaf.segment.number))) leaves) ≡ flat_map live_rows leaves
  leaves_shown [] h = refl
  leaves_shown (leaf ∷ leaves) h =
      let bytes : List ℕ = files leaf.segment.number in
      map-append row_of (selected leaf.live (sourced leaf.segment.rows bytes)) _
      ∙ ap₂ (λ (a b : List Row). a ++ b) (selected-map row_of leaf.live (sourced leaf.segment.rows bytes) ∙ ap (selected leaf.live) (rows-sourced leaf.segment.rows bytes h.0)) (leaves_shown leaves h.1)

pub sources_are_shown : SourcesAreShown
sources_are_shown files view h = leaves_shown files view.leaves (recursion_from_All _ view.leaves h)
