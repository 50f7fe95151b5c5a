use Rattle.std.proofs.Common.{◌≡◌, ◌≤◌, ◌++◌, List, length, map, take}
use Rattle.cat_search.specs.Candidates.{mark_standing}
use Rattle.cat_search.specs.Hits.{hit_rows}
use Rattle.cat_search.specs.Standings.{HitStanding, entry_shown}
use Rattle.std.specs.List.{range_with_len}
use Rattle.std.proofs.Common.{filter}
use Rattle.cat_model.specs.RowSets.{has_row}
use Rattle.cat_search.proofs.Gathered.{standings_at}
use Rattle.cat_search.proofs.Tested.{cleared}
use Rattle.cat_search.proofs.gathering.show_tested.Given as goal

abbrev pub invariant-loop-row : goal.invariant-loop-row
invariant-loop-row l = record {
  above : l.from ≤ l.row;
  within : l.row ≤ length l.ranks;
  shown : (ps : List HitStanding) → l.initial.shown.items ≡ take l.wanted (map entry_shown ps)
      → l.shown.items ≡ take l.wanted (map entry_shown (ps ++ standings_at (mark_standing l.mark) l.ranks (filter (has_row (cleared l.from (hit_rows l.hits))) (range_with_len 0 l.row))));
}
