use Rattle.std.proofs.Common.{◌≡◌, ◌++◌, List, filter}
use Rattle.cat_model.specs.RowSets.{has_row}
use Rattle.cat_search.specs.Candidates.{IsBestAt, mark_standing}
use Rattle.cat_search.specs.Hits.{hit_rows}
use Rattle.cat_search.specs.Standings.{HitStanding}
use Rattle.cat_search.proofs.Gathered.{standings_at}
use Rattle.cat_search.proofs.walk.offer_walk.Given as goal

abbrev pub invariant-loop-row : goal.invariant-loop-row
invariant-loop-row l = record {
  can : (goal.iterator-loop-row).can_next l.row-iterator;
  finite : (goal.iterator-loop-row).is_finite l.row-iterator;
  rows : l.yielded ++ l.row-iterator ≡ l.fn.walk;
  limit : l.best.limit ≡ l.initial.best.limit;
  best : (ps : List HitStanding) → IsBestAt l.initial.best ps → IsBestAt l.best (ps ++ standings_at (mark_standing l.mark) l.ranks (filter (has_row (hit_rows l.hits)) l.yielded));
}
