-- What always holds of the segments that stand, and of what is noted of them.
use Rattle.std.specs.Prelude.{◌≡◌, ℕ, List, length, Option}
use Rattle.cat_model.specs.Text.{Text}
use Rattle.cat_model.specs.View.{Leaf}
use Rattle.cat_ledger_laws.specs.model.Leaves.{AreLeaves}
use Rattle.cat_live_table.specs.declared.current.places.Place.{Place}
use Rattle.cat_live_table.specs.current.Places.{standing, place_in}
use Rattle.cat_live_table.specs.current.Indices.{index_in}

-- the leaves may stand in one list; a place is noted for just the ids of live rows, and an index for just their numbers
pub record IsCurrent (place_of : Text → Option Place) (index_of : ℕ → Option ℕ) (count : ℕ) (leaves : List Leaf) : Type 0 where
  pub apart : AreLeaves leaves
  pub placed : (id : Text) → place_of id ≡ place_in (standing leaves) id
  pub indexed : (n : ℕ) → index_of n ≡ index_in n leaves
  pub counted : count ≡ length leaves
