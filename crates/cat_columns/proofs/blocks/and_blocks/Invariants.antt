use Rattle.std.proofs.Common.{◌≡◌, ℕ, ◌<◌, ◌≤◌, get_or, bit_and}
use Rattle.cat_columns.proofs.blocks.and_blocks.Given as goal

abbrev pub invariant-loop-k : goal.invariant-loop-k
invariant-loop-k l = record {
  done : (k : ℕ) → k < l.k → get_or l.blocks k 0 ≡ bit_and (get_or l.initial.blocks k 0) (get_or l.others k 0);
  left : (k : ℕ) → l.k ≤ k → get_or l.blocks k 0 ≡ get_or l.initial.blocks k 0;
}
