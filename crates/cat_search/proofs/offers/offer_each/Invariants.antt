use Rattle.std.proofs.Common.{◌≡◌, ◌++◌, List, option_map}
use Rattle.cat_model.specs.RowSets.{indices}
use Rattle.cat_search.specs.Standings.{HitStanding}
use Rattle.cat_search.specs.Candidates.{standing_of, IsBestAt}
use Rattle.cat_search.proofs.Gathered.{standings_at}
use Rattle.cat_search.proofs.offers.offer_each.Given as goal

abbrev pub invariant-loop-row : goal.invariant-loop-row
invariant-loop-row l = record {
  can : (goal.iterator-loop-row).can_next l.row-iterator;
  finite : (goal.iterator-loop-row).is_finite l.row-iterator;
  rows : l.yielded ++ l.row-iterator ≡ indices l.hits;
  limit : l.best.limit ≡ l.initial.best.limit;
  best : (ps : List HitStanding) → IsBestAt l.initial.best ps → IsBestAt l.best (ps ++ standings_at (option_map standing_of l.mark) l.ranks l.yielded);
}
