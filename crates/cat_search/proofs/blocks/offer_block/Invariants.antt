use Rattle.std.proofs.Common.{◌≡◌, ◌≤◌, ◌<◌, ◌+◌, ◌-◌, ◌*◌, ℕ, List, false}
use Rattle.cat_search.specs.Bars.{IsBarOf}
use Rattle.cat_search.specs.Blocks.{has_bit}
use Rattle.cat_search.specs.Candidates.{IsBestAt, mark_standing}
use Rattle.cat_search.specs.Standings.{HitStanding}
use Rattle.cat_search.proofs.BlockRows.{ArePassed}
use Rattle.cat_search.proofs.blocks.offer_block.Given as goal

abbrev pub invariant-loop-left : goal.invariant-loop-left
invariant-loop-left l = record {
  bound : l.passed ≤ 64;
  bits : (i : ℕ) → has_bit l.left i ≡ has_bit l.asked (l.passed + i);
  limit : l.best.limit ≡ l.initial.best.limit;
  bar : IsBarOf l.order (mark_standing l.mark) l.best l.bar;
  rows : (ps : List HitStanding) → IsBestAt l.initial.best ps
      → ArePassed (mark_standing l.mark) l.ranks l.hits (64 * l.block) (λ i. (i < 64) × (has_bit l.asked i ≡ false)) ps l.best l.passed;
}

abbrev pub decreases-loop-left : goal.decreases-loop-left
decreases-loop-left l = 64 - l.passed
