use Rattle.std.proofs.Common.{◌≡◌, length, map, take}
use Rattle.cat_query.specs.View.{query_of}
use Rattle.cat_search.specs.declared.sort.Order.TheVariants.{Added}
use Rattle.cat_search.specs.Candidates.{mark_standing}
use Rattle.cat_search.specs.Pages.{behind}
use Rattle.cat_search.specs.Rows.{hits_in, row_standing}
use Rattle.cat_search.specs.Standings.{entry_shown}
use Rattle.cat_search.proofs.gathering.added_entries.Given as goal

abbrev pub invariant-loop-index : goal.invariant-loop-index
invariant-loop-index l = record {
  total : l.total ≡ length (hits_in (take l.index l.leaves) (query_of l.query));
  shown : l.shown.items ≡ take l.wanted.count (map entry_shown (behind (mark_standing l.wanted.mark) (map (row_standing Added) (hits_in (take l.index l.leaves) (query_of l.query)))));
}
