-- Leaves once a write has taken out its rows.
use Rattle.std.proofs.Common.{◌≡◌, ◌≢◌, ℕ, suc, List, [], ◌∷◌, ◌++◌, length, filter, not, ◌==◌, Bool, true, false, cond, Some, option_map, inl, inr, refl, sym, ap, ap₂, ◌∙◌}
use Rattle.std.specs.List.{AllByRecursion, flat_map}
use Rattle.std.proofs.lemmas.Bool.{cases_Bool}
use Rattle.std.proofs.lemmas.List.{length-map}
use Rattle.std.proofs.lemmas.List.Elements.{filter-append}
use Rattle.std.proofs.lemmas.List.Kept.{AllPairs-filter}
use Rattle.cat_model.specs.Write.{Write, removes}
use Rattle.cat_model.specs.View.{Row, Leaf, item_in, live_rows, selected}
use Rattle.cat_model.proofs.Places.{EachPair, each_pair, all_pairs}
use Rattle.cat_ledger_laws.specs.model.Leaves.{live_rows_after, leaf_after, leaves_after, AreLeaves}
use Rattle.cat_live_table.specs.current.Places.{PlacedRow, standing_from, standing_in, standing}
use Rattle.cat_live_table.specs.current.Indices.{index_in}

module _ (w : Write) where
  abbrev pub row_stays : Row → Bool
  row_stays r = not (removes w (item_in r))

  abbrev pub stays : PlacedRow → Bool
  stays s = not (removes w (item_in s.row))

  kept_from : (n i : ℕ) (live : List Bool) (rows : List Row) → selected (live_rows_after w live rows) (standing_from n i rows) ≡ filter stays (selected live (standing_from n i rows))
  kept_from n i [] rows = refl
  kept_from n i (b ∷ bs) [] = refl
  kept_from n i (true ∷ bs) (r ∷ rs) = elim (cases_Bool (removes w (item_in r))) [
    | inl t ↦ rw t (kept_from n (suc i) bs rs)
    | inr f ↦ rw f (ap (λ l. record { row = r; place = record { segment = n; row = i } } ∷ l) (kept_from n (suc i) bs rs))
  ]
  kept_from n i (false ∷ bs) (r ∷ rs) = kept_from n (suc i) bs rs

  -- the live rows that stay, each where it stood
  pub standing_after : (leaves : List Leaf) → standing (leaves_after w leaves) ≡ filter stays (standing leaves)
  standing_after [] = refl
  standing_after (l ∷ ls) =
      ap₂ (λ (a b : List PlacedRow). a ++ b) (kept_from l.segment.number 0 l.live l.segment.rows) (standing_after ls)
      ∙ sym (filter-append stays (standing_in l) (standing ls))

  kept_rows : (live : List Bool) (rows : List Row) → selected (live_rows_after w live rows) rows ≡ filter row_stays (selected live rows)
  kept_rows [] rows = refl
  kept_rows (b ∷ bs) [] = refl
  kept_rows (true ∷ bs) (r ∷ rs) = elim (cases_Bool (removes w (item_in r))) [
    | inl t ↦ rw t (kept_rows bs rs)
    | inr f ↦ rw f (ap (λ l. r ∷ l) (kept_rows bs rs))
  ]
  kept_rows (false ∷ bs) (r ∷ rs) = kept_rows bs rs

  pub rows_after : (leaves : List Leaf) → flat_map live_rows (leaves_after w leaves) ≡ filter row_stays (flat_map live_rows leaves)
  rows_after [] = refl
  rows_after (l ∷ ls) =
      ap₂ (λ (a b : List Row). a ++ b) (kept_rows l.live l.segment.rows) (rows_after ls)
      ∙ sym (filter-append row_stays (live_rows l) (flat_map live_rows ls))

  numbers_apart : (n : ℕ) (leaves : List Leaf) → AllByRecursion (λ l. n ≢ l.segment.number) leaves → AllByRecursion (λ l. n ≢ l.segment.number) (leaves_after w leaves)
  numbers_apart n [] a = tt
  numbers_apart n (l ∷ ls) a = (a.0, numbers_apart n ls a.1)

  pairs_after : (leaves : List Leaf) → EachPair (λ a b. a.segment.number ≢ b.segment.number) leaves → EachPair (λ a b. a.segment.number ≢ b.segment.number) (leaves_after w leaves)
  pairs_after [] a = tt
  pairs_after (l ∷ ls) a = (numbers_apart l.segment.number ls a.0, pairs_after ls a.1)

  pub AreLeaves-after : (leaves : List Leaf) → AreLeaves leaves → AreLeaves (leaves_after w leaves)
  AreLeaves-after leaves a = record {
    numbers = all_pairs (λ x y. x.segment.number ≢ y.segment.number) (leaves_after w leaves)
        (pairs_after leaves (each_pair (λ x y. x.segment.number ≢ y.segment.number) leaves a.numbers));
    ids = rw (rows_after leaves) (AllPairs-filter (λ r s. r.id ≢ s.id) row_stays (flat_map live_rows leaves) a.ids);
  }

  pub index_after : (n : ℕ) (leaves : List Leaf) → index_in n (leaves_after w leaves) ≡ index_in n leaves
  index_after n [] = refl
  index_after n (l ∷ ls) = ap (λ o. cond (l.segment.number == n) (Some 0) (option_map suc o)) (index_after n ls)

  pub length_after : (leaves : List Leaf) → length (leaves_after w leaves) ≡ length leaves
  length_after leaves = length-map leaves (leaf_after w)
