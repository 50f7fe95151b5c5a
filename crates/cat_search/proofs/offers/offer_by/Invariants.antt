use Rattle.std.proofs.Common.{◌≡◌, ◌++◌, ℕ, List, None}
use Rattle.std.specs.Prelude.{slice_index_or}
use Rattle.cat_model.specs.RowSets.{indices}
use Rattle.cat_search.specs.Bars.{HaveRanksOf, IsLeftOut}
use Rattle.cat_search.specs.Candidates.{IsBestAt, mark_standing}
use Rattle.cat_search.specs.Standings.{HitStanding}
use Rattle.cat_search.proofs.Gathered.{standings_at}
use Rattle.cat_search.proofs.offers.offer_by.Given as goal

abbrev pub invariant-loop-row : goal.invariant-loop-row
invariant-loop-row g l = record {
  can : (goal.iterator-loop-row g).can_next l.row-iterator;
  finite : (goal.iterator-loop-row g).is_finite l.row-iterator;
  rows : l.yielded ++ l.row-iterator ≡ indices l.hits;
  limit : l.best.limit ≡ l.initial.best.limit;
  sound : g.B.Bar.is_sound l.bar;
  ranked : HaveRanksOf (g.B.Bar.order l.bar) (g.B.Bar.keys l.bar) l.ranks;
  out : (row : ℕ) → g.B.Bar.keeps_out l.bar row → IsLeftOut (g.B.Bar.order l.bar) (mark_standing l.mark) l.best (slice_index_or (g.B.Bar.keys l.bar) row None);
  best : (ps : List HitStanding) → IsBestAt l.initial.best ps → IsBestAt l.best (ps ++ standings_at (mark_standing l.mark) l.ranks l.yielded);
}
