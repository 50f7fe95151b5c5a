use Rattle.std.proofs.Common.{◌≡◌, ◌++◌, List, map, take}
use Rattle.cat_model.specs.RowSets.{indices}
use Rattle.cat_search.specs.Standings.{HitStanding, entry_shown}
use Rattle.cat_search.specs.Candidates.{mark_standing}
use Rattle.cat_search.proofs.Gathered.{standings_at}
use Rattle.cat_search.proofs.gathering.show_rows.Given as goal

abbrev pub invariant-loop-row : goal.invariant-loop-row
invariant-loop-row l = record {
  can : (goal.iterator-loop-row).can_next l.row-iterator;
  finite : (goal.iterator-loop-row).is_finite l.row-iterator;
  rows : l.yielded ++ l.row-iterator ≡ indices l.hits;
  shown : (ps : List HitStanding) → l.initial.shown.items ≡ take l.n (map entry_shown ps) → l.shown.items ≡ take l.n (map entry_shown (ps ++ standings_at (mark_standing l.mark) l.ranks l.yielded));
}
