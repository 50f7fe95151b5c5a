use Rattle.std.proofs.Common.{◌≡◌, length, map, take}
use Rattle.cat_query.specs.View.{query_of}
use Rattle.cat_search.specs.Candidates.{IsBestAt, mark_standing}
use Rattle.cat_search.specs.Pages.{behind}
use Rattle.cat_search.specs.Rows.{hits_in, row_standing}
use Rattle.cat_search.proofs.gathering.best_hits.Given as goal

abbrev pub invariant-loop-index : goal.invariant-loop-index
invariant-loop-index l = record {
  total : l.total ≡ length (hits_in (take l.index l.leaves) (query_of l.query));
  limit : l.best.limit ≡ l.wanted.count;
  best : IsBestAt l.best (behind (mark_standing l.wanted.mark) (map (row_standing l.wanted.order) (hits_in (take l.index l.leaves) (query_of l.query))));
}
