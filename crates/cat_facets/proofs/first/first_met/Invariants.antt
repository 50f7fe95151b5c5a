use Rattle.std.proofs.Common.{◌≡◌, length, take}
use Rattle.cat_search.specs.BestItems.{IsBestOf}
use Rattle.cat_facets.specs.Met.{label_comes_first, met_from}
use Rattle.cat_facets.proofs.first.first_met.Given as goal

abbrev pub invariant-loop-ordinal : goal.invariant-loop-ordinal
invariant-loop-ordinal l = record {
  met : l.met ≡ length (met_from 0 (take l.ordinal l.totals));
  limit : l.best.limit ≡ l.n;
  best : IsBestOf label_comes_first l.best (met_from 0 (take l.ordinal l.totals));
}
