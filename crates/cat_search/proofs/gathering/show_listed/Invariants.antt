use Rattle.std.proofs.Common.{◌≡◌, ◌++◌, List, map, take}
use Rattle.cat_search.specs.Candidates.{mark_standing}
use Rattle.cat_search.specs.Standings.{HitStanding, entry_shown}
use Rattle.cat_search.proofs.ListedRows.{listed_to}
use Rattle.cat_search.proofs.gathering.show_listed.Given as goal

abbrev pub invariant-loop-listed : goal.invariant-loop-listed
invariant-loop-listed l = (ps : List HitStanding) → l.initial.shown.items ≡ take l.most (map entry_shown ps)
    → l.shown.items ≡ take l.most (map entry_shown (ps ++ listed_to (mark_standing l.mark) l.ranks l.live l.rows l.listed-index))
