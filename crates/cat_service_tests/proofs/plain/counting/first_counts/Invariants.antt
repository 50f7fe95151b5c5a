use Rattle.std.proofs.Common.{◌≡◌, map, take}
use Rattle.cat_search.specs.BestItems.{IsBestOf}
use Rattle.cat_service_tests.specs.plain.Counts.{count_comes_first}
use Rattle.cat_service_tests.proofs.plain.catalogue.LabelRanks.{ranked_label}
use Rattle.cat_service_tests.proofs.plain.counting.first_counts.Given as goal

abbrev pub invariant-loop-label : goal.invariant-loop-label
invariant-loop-label l = record {
  limit : l.best.limit ≡ l.count;
  best : IsBestOf count_comes_first l.best (map (ranked_label l.dim l.hits) (take l.label-index l.labels));
}
