-- Where the live rows of ids stand.
use Rattle.std.specs.Prelude.{ℕ, suc, cond, List, [], ◌∷◌, find, Option, Some, None, option_map}
use Rattle.std.specs.List.{flat_map, list_any}
use Rattle.cat_model.specs.Text.{Text, same_text}
use Rattle.cat_model.specs.View.{Row, Leaf, selected}
use Rattle.cat_live_table.specs.declared.current.places.Place.{Place}

-- a row, and where it stands
pub record PlacedRow : Type 0 where
  pub row : Row
  pub place : Place

-- the rows of the segment of this number, from the one of this index on
abbrev pub standing_from : ℕ → ℕ → List Row → List PlacedRow
standing_from n i [] = []
standing_from n i (r ∷ rs) = record { row = r; place = record { segment = n; row = i } } ∷ standing_from n (suc i) rs

-- the live rows of a leaf, each with where it stands
abbrev pub standing_in : Leaf → List PlacedRow
standing_in leaf = selected leaf.live (standing_from leaf.segment.number 0 leaf.segment.rows)

-- those of all leaves
abbrev pub standing : List Leaf → List PlacedRow
standing leaves = flat_map standing_in leaves

-- where the row of the id stands
abbrev pub place_in : List PlacedRow → Text → Option Place
place_in ss id = option_map (λ s. s.place) (find (λ s. same_text id s.row.id) ss)

-- an id, and where its row stands
pub record PlacedId : Type 0 where
  pub id : Text
  pub place : Place

abbrev pub placed_id_of : PlacedRow → PlacedId
placed_id_of s = record { id = s.row.id; place = s.place }

-- the place of the id, which was `old`, once these are noted in turn
abbrev pub placed_in_turn : List PlacedId → Text → Option Place → Option Place
placed_in_turn [] id old = old
placed_in_turn (k ∷ ks) id old = placed_in_turn ks id (cond (same_text k.id id) (Some k.place) old)

-- the place of the id, which was `old`, once this one is written over the one that its id has
abbrev pub moved_at : PlacedId → Text → Option Place → Option Place
moved_at k id old = cond (same_text k.id id) (option_map (λ p. k.place) old) old

-- the same of several in turn
abbrev pub moved_in_turn : List PlacedId → Text → Option Place → Option Place
moved_in_turn [] id old = old
moved_in_turn (k ∷ ks) id old = moved_in_turn ks id (moved_at k id old)

-- the place of the id, which was `old`, once those of these rows are forgotten
abbrev pub forgotten : List Row → Text → Option Place → Option Place
forgotten rows id old = cond (list_any (λ r. same_text r.id id) rows) None old
