-- What a merge has made of its inputs' columns and ids.
use Rattle.std.specs.Prelude.{◌≡◌, ◌<◌, ◌^◌, List, length, map, All}
use Rattle.cat_model.specs.Item.{Schema}
use Rattle.cat_model.specs.View.{Leaf}
use Rattle.cat_views.specs.cat_segment.Index.{AreAllRows}
use Rattle.cat_merge.specs.Fields.{kept_rows, AreFirstColumns}
use Rattle.cat_merge.specs.IdRuns.{AreIdRuns}
use Rattle.cat_merge.specs.Maps.{codes_of}
use Rattle.cat_merge.specs.declared.making.Parts.{Parts}

-- where the rows go, how many are kept, the columns of the first fields with orders of all rows, and the rows that the first inputs
-- keep by their ids
pub record AreParts (schema : Schema) (inputs : List Leaf) (parts : Parts) : Type 0 where
  pub maps : map (λ m. m.items) parts.maps.items ≡ codes_of 0 inputs
  pub rows : parts.rows ≡ length (kept_rows inputs)
  pub few : parts.rows < 2 ^ 32
  pub columns : AreFirstColumns schema (kept_rows inputs) parts.columns.items
  pub orders : All (λ order. AreAllRows (length (kept_rows inputs)) order.items) parts.orders.items
  pub ids : AreIdRuns inputs parts.ids.taken (map (λ r. r.items) parts.ids.runs.items)
