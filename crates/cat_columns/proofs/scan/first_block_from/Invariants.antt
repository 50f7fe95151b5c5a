use Rattle.std.proofs.Common.{◌≡◌, ℕ, ◌-◌, ◌<◌, ◌≤◌, length, get_or}
use Rattle.cat_columns.proofs.scan.first_block_from.Given as goal

abbrev pub invariant-loop-index : goal.invariant-loop-index
invariant-loop-index l = record {
  after : l.from ≤ l.index;
  passed : (k : ℕ) → l.from ≤ k → k < l.index → get_or l.blocks k 0 ≡ 0;
}

abbrev pub decreases-loop-index : goal.decreases-loop-index
decreases-loop-index l = length l.blocks - l.index
