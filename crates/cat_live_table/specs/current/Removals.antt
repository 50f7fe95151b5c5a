-- What a delete by a query takes out of leaves.
use Rattle.std.specs.Prelude.{Bool, List, map}
use Rattle.cat_model.specs.Query.{Query}
use Rattle.cat_model.specs.RowSets.{joined, both}
use Rattle.cat_model.specs.View.{Row, Leaf, row_matches, selected}
use Rattle.cat_model.specs.Write.{Write}
use Rattle.cat_ledger_laws.specs.model.Leaves.{leaf_after}

-- which rows go, and the leaf without them
pub record Removed : Type 0 where
  pub hits : List Bool
  pub leaf : Leaf

-- the live rows that the query matches go
abbrev pub removed_from : Query → Leaf → Removed
removed_from q leaf = record {
  hits = joined both (map (row_matches q) leaf.segment.rows) leaf.live;
  leaf = leaf_after (Write.delete_where q) leaf;
}

-- the rows that go
abbrev pub lost : Removed → List Row
lost r = selected r.hits r.leaf.segment.rows
