-- The hits of a leaf, lent, told by a test or made.
use Rattle.std.specs.Prelude.{Bool, List}
use Rattle.cat_search.specs.declared.hits.Hits.{Hits}
use Rattle.cat_search.specs.declared.hits.Hits.TheVariants.{Live, InRange, Listed, Matched}

-- the rows that are hits
abbrev pub hit_rows : Hits → List Bool
hit_rows (Live leaf) = leaf.now.live
hit_rows (InRange hits) = hits
hit_rows (Listed hits) = hits
hit_rows (Matched rows) = rows
