-- What is kept once a segment stands in the place of several.
use Rattle.std.proofs.Common.{◌≡◌, ◌≢◌, ℕ, ◌+◌, List, ◌++◌, length, take, drop, map, Option, sym, ap, ap₂, ◌∙◌, subst, arith, append_assoc}
use Rattle.std.specs.List.{flat_map}
use Rattle.std.proofs.lemmas.Grind.{flat_map-append}
use Rattle.std.proofs.lemmas.List.{drop-drop, take-append-drop, take-take}
use Rattle.cat_model.specs.Text.{Text}
use Rattle.cat_model.specs.View.{Row, Leaf, live_rows}
use Rattle.cat_model.proofs.Places.{EachPair, each_pair}
use Rattle.cat_views.proofs.Selected.{Pairs-left}
use Rattle.cat_ledger_laws.specs.model.Leaves.{AreLeaves}
use Rattle.cat_live_table.specs.declared.current.places.Place.{Place}
use Rattle.cat_live_table.specs.current.Places.{placed_id_of, standing_in, standing, place_in, moved_in_turn}
use Rattle.cat_live_table.specs.current.Indices.{index_in}
use Rattle.cat_live_table.specs.current.Currents.{IsCurrent}
use Rattle.cat_live_table.proofs.current.Standing.{the_rows, rows_standing}
use Rattle.cat_live_table.proofs.current.Moved.{all_moved}

abbrev Apart : Row → Row → Type 0
Apart a b = a.id ≢ b.id

-- what stands before a run of a list, the run, and what stands behind it
pub three_parts : {X : Type 0} (xs : List X) (i c : ℕ) → xs ≡ take i xs ++ (take c (drop i xs) ++ drop (i + c) xs)
three_parts xs i c =
    sym (take-append-drop i xs) ∙ ap (λ l. take i xs ++ l) (sym (take-append-drop c (drop i xs)) ∙ ap (λ l. take c (drop i xs) ++ l) (drop-drop c i xs))

-- a list whose middle was cut out, with another in its place
pub put_together : {X : Type 0} (xs cut front behind ys all : List X) (i c : ℕ) → cut ≡ take (i + c) xs → behind ≡ drop (i + c) xs → front ≡ take i cut
    → all ≡ front ++ (ys ++ behind) → all ≡ take i xs ++ (ys ++ drop (i + c) xs)
put_together xs cut front behind ys all i c cuts tail fronts is =
    is ∙ ap (λ l. l ++ (ys ++ behind)) (fronts ∙ ap (take i) cuts ∙ take-take i (i + c) xs (omega arith)) ∙ ap (λ l. take i xs ++ (ys ++ l)) tail

standing-parts : (xs ys zs : List Leaf) → standing (xs ++ (ys ++ zs)) ≡ standing xs ++ (standing ys ++ standing zs)
standing-parts xs ys zs = flat_map-append standing_in xs (ys ++ zs) ∙ ap (λ l. standing xs ++ l) (flat_map-append standing_in ys zs)

rows-parts : (xs ys zs : List Leaf) → flat_map live_rows (xs ++ (ys ++ zs)) ≡ (flat_map live_rows xs ++ flat_map live_rows ys) ++ flat_map live_rows zs
rows-parts xs ys zs =
    flat_map-append live_rows xs (ys ++ zs) ∙ ap (λ l. flat_map live_rows xs ++ l) (flat_map-append live_rows ys zs)
    ∙ sym (append_assoc (flat_map live_rows xs) (flat_map live_rows ys) (flat_map live_rows zs))

rows_apart : (xs ts zs : List Leaf) → AreLeaves (xs ++ (ts ++ zs)) → EachPair Apart (the_rows (standing xs) ++ the_rows (standing ts))
rows_apart xs ts zs a =
    subst (EachPair Apart) (sym (ap₂ (λ (a b : List Row). a ++ b) (rows_standing xs) (rows_standing ts)))
    (Pairs-left Apart (flat_map live_rows xs ++ flat_map live_rows ts) (flat_map live_rows zs)
    (subst (EachPair Apart) (rows-parts xs ts zs) (each_pair Apart (flat_map live_rows (xs ++ (ts ++ zs))) a.ids)))

pub installed : (place_of place_after : Text → Option Place) (index_of index_then : ℕ → Option ℕ) (count after : ℕ) (xs ws ts zs : List Leaf)
    → IsCurrent place_of index_of count (xs ++ (ws ++ zs)) → AreLeaves (xs ++ (ts ++ zs)) → flat_map live_rows ts ≡ flat_map live_rows ws
    → ((q : Text) → place_after q ≡ moved_in_turn (map placed_id_of (standing ts)) q (place_of q))
    → ((n : ℕ) → index_then n ≡ index_in n (xs ++ (ts ++ zs))) → after ≡ length (xs ++ (ts ++ zs)) → IsCurrent place_after index_then after (xs ++ (ts ++ zs))
installed place_of place_after index_of index_then count after xs ws ts zs c apart same places indices long = record {
  apart = apart;
  placed = λ q.
      places q ∙ ap (moved_in_turn (map placed_id_of (standing ts)) q) (c.placed q ∙ ap (λ ss. place_in ss q) (standing-parts xs ws zs))
      ∙ all_moved (standing xs) (standing ws) (standing ts) (standing zs) q (rows_standing ws ∙ sym same ∙ sym (rows_standing ts)) (rows_apart xs ts zs apart)
      ∙ ap (λ ss. place_in ss q) (sym (standing-parts xs ts zs));
  indexed = indices;
  counted = long;
}
