-- What a write does to segments as memory has them: rows, which know the lengths of their sources, in place of records. Not to
-- be believed, but to prove the ledger by.
use Rattle.std.specs.Prelude.{◌≢◌, Bool, not, ◌&&◌, List, [], ◌∷◌, map, AllPairs}
use Rattle.std.specs.List.{flat_map, list_any}
use Rattle.cat_model.specs.Text.{Text, same_text}
use Rattle.cat_model.specs.Write.{Write, removes}
use Rattle.cat_model.specs.View.{Row, Leaf, item_in, live_rows}

-- the live set once the write has taken out its rows
abbrev pub live_rows_after : Write → List Bool → List Row → List Bool
live_rows_after w [] rows = []
live_rows_after w (b ∷ bs) [] = b ∷ bs
live_rows_after w (b ∷ bs) (r ∷ rs) = (b && not (removes w (item_in r))) ∷ live_rows_after w bs rs

-- the leaf once the write has taken out its rows
abbrev pub leaf_after : Write → Leaf → Leaf
leaf_after w leaf = record leaf { live = live_rows_after w leaf.live leaf.segment.rows }

-- each of the leaves
abbrev pub leaves_after : Write → List Leaf → List Leaf
leaves_after w leaves = map (leaf_after w) leaves

-- a live row has the id
abbrev pub has_live_id : Text → List Leaf → Bool
has_live_id id leaves = list_any (λ r. same_text id r.id) (flat_map live_rows leaves)

-- leaves that may stand in one list: their numbers differ, and so do the ids of their live rows
pub record AreLeaves (leaves : List Leaf) : Type 0 where
  pub numbers : AllPairs (λ a b. a.segment.number ≢ b.segment.number) leaves
  pub ids : AllPairs (λ a b. a.id ≢ b.id) (flat_map live_rows leaves)
