-- What counts of labels mean.
use Rattle.std.specs.Prelude.{Bool, map}
use Rattle.cat_model.specs.Facets as model
use Rattle.cat_search.specs.BestItems.{less}
use Rattle.cat_service_tests.specs.contracts.plain.counts.LabelCountOrd.TheImpl as by_count
use Rattle.cat_service_tests.specs.declared.plain.counts.Counts.{Counts}
use Rattle.cat_service_tests.specs.declared.plain.counts.LabelCount.{LabelCount}

-- the order of labels with their counts, which is derived
abbrev pub count_comes_first : LabelCount → LabelCount → Bool
count_comes_first = less by_count.ghosts.cmp

-- a label with its count
abbrev pub counted_of : LabelCount → model.Counted
counted_of c = record { count = c.count.0; label = c.label }

-- the same the other way
abbrev pub count_from : model.Counted → LabelCount
count_from c = record { count = record { 0 = c.count }; label = c.label }

-- the counts that are told
abbrev pub facets_told : Counts → model.Facets
facets_told f = record { matching = f.matching; met = f.met; counts = map counted_of f.counts.items }
