use Rattle.std.proofs.Common.{◌≡◌, ◌++◌, ℕ, List, None}
use Rattle.std.specs.Prelude.{slice_index_or}
use Rattle.cat_search.specs.Bars.{HaveRanksOf, IsLeftOut}
use Rattle.cat_search.specs.Candidates.{IsBestAt, mark_standing}
use Rattle.cat_search.specs.Standings.{HitStanding}
use Rattle.cat_search.proofs.ListedRows.{listed_to}
use Rattle.cat_search.proofs.offers.offer_listed_by.Given as goal

abbrev pub invariant-loop-listed : goal.invariant-loop-listed
invariant-loop-listed g l = record {
  limit : l.best.limit ≡ l.initial.best.limit;
  sound : g.B.Bar.is_sound l.bar;
  ranked : HaveRanksOf (g.B.Bar.order l.bar) (g.B.Bar.keys l.bar) l.ranks;
  out : (row : ℕ) → g.B.Bar.keeps_out l.bar row → IsLeftOut (g.B.Bar.order l.bar) (mark_standing l.mark) l.best (slice_index_or (g.B.Bar.keys l.bar) row None);
  best : (ps : List HitStanding) → IsBestAt l.initial.best ps → IsBestAt l.best (ps ++ listed_to (mark_standing l.mark) l.ranks l.live l.rows l.listed-index);
}
