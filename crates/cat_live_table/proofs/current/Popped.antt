-- What is kept once the last segment has gone.
use Rattle.std.proofs.Common.{◌≡◌, ◌≢◌, ℕ, suc, ◌+◌, List, [], ◌∷◌, ◌++◌, true, false, cond, Option, Some, None, option_map, is_some, eqb, inl, inr, refl, sym, ap, ◌∙◌, subst, arith}
use Rattle.std.specs.List.{AllByRecursion}
use Rattle.std.proofs.lemmas.Bool.{cases_Bool, ne_eqb, eq-eqb, eqb-true}
use Rattle.std.proofs.lemmas.List.{length_push}
use Rattle.cat_model.specs.Text.{Text}
use Rattle.cat_model.specs.View.{Leaf, live_rows}
use Rattle.cat_model.proofs.Places.{each_pair}
use Rattle.cat_live_table.specs.declared.current.places.Place.{Place}
use Rattle.cat_live_table.specs.current.Places.{standing_in, standing, place_in, forgotten}
use Rattle.cat_live_table.specs.current.Indices.{index_in}
use Rattle.cat_live_table.specs.current.Currents.{IsCurrent}
use Rattle.cat_live_table.proofs.current.Standing.{IdsDiffer, ids_differ, rows_in, earlier}
use Rattle.cat_live_table.proofs.current.Noted.{all_forgotten}
use Rattle.cat_live_table.proofs.current.Currents.{AreLeaves-front, standing-push}

index_pop : (n : ℕ) (leaves : List Leaf) (leaf : Leaf) → AllByRecursion (λ l. l.segment.number ≢ leaf.segment.number) leaves
    → cond (eqb leaf.segment.number n) None (index_in n (leaves ++ leaf ∷ [])) ≡ index_in n leaves
index_pop n [] leaf a = elim (cases_Bool (eqb leaf.segment.number n)) [
  | inl t ↦ rw t refl
  | inr f ↦ rw f refl
]
index_pop n (l ∷ ls) leaf a =
    let rest = index_pop n ls leaf a.1 in
    elim (cases_Bool (eqb l.segment.number n)) [
      | inl t ↦
          let other : eqb leaf.segment.number n ≡ false = ne_eqb leaf.segment.number n (λ e. a.0 (eqb-true l.segment.number n t ∙ sym e)) in
          rw (t, other) refl
      | inr f ↦ rw f (elim (cases_Bool (eqb leaf.segment.number n)) [
        | inl k ↦ rw k (ap (option_map suc) (rw k at rest))
        | inr k ↦ rw k (ap (option_map suc) (rw k at rest))
      ])
    ]

some_more : (o : Option ℕ) → is_some (option_map suc o) ≡ is_some o
some_more None = refl
some_more (Some n) = refl

-- the number of the last segment is noted
pub last_indexed : (leaves : List Leaf) (leaf : Leaf) → is_some (index_in leaf.segment.number (leaves ++ leaf ∷ [])) ≡ true
last_indexed [] leaf = rw (eq-eqb leaf.segment.number leaf.segment.number refl) refl
last_indexed (l ∷ ls) leaf = elim (cases_Bool (eqb l.segment.number leaf.segment.number)) [
  | inl t ↦ rw t refl
  | inr f ↦ rw f (some_more (index_in leaf.segment.number (ls ++ leaf ∷ [])) ∙ last_indexed ls leaf)
]

pub popped : (place_of place_after : Text → Option Place) (index_of index_then : ℕ → Option ℕ) (count less : ℕ) (front : List Leaf) (leaf : Leaf)
    → IsCurrent place_of index_of count (front ++ leaf ∷ [])
    → ((q : Text) → place_after q ≡ forgotten (live_rows leaf) q (place_of q))
    → ((n : ℕ) → index_then n ≡ cond (eqb leaf.segment.number n) None (index_of n))
    → less + 1 ≡ count → IsCurrent place_after index_then less front
popped place_of place_after index_of index_then count less front leaf c places indices one = record {
  apart = AreLeaves-front front (leaf ∷ []) c.apart;
  placed = λ q.
      places q ∙ ap (forgotten (live_rows leaf) q) (c.placed q ∙ ap (λ ss. place_in ss q) (standing-push front leaf))
      ∙ ap (λ rs. forgotten rs q (place_in (standing front ++ standing_in leaf) q)) (sym (rows_in leaf))
      ∙ all_forgotten (standing front) (standing_in leaf) q (subst IdsDiffer (standing-push front leaf) (ids_differ (front ++ leaf ∷ []) c.apart.ids));
  indexed = λ n. indices n ∙ ap (cond (eqb leaf.segment.number n) None) (c.indexed n)
      ∙ index_pop n front leaf (earlier (λ a b. a.segment.number ≢ b.segment.number) front leaf []
      (each_pair (λ a b. a.segment.number ≢ b.segment.number) (front ++ leaf ∷ []) c.apart.numbers));
  counted = let all = length_push front leaf in let had = c.counted in omega (arith, all, had, one);
}
