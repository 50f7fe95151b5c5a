use Rattle.std.proofs.Common.{◌≡◌, ℕ, ◌+◌, ◌<◌, length, get_or}
use Rattle.cat_columns.proofs.packed.block_at.Given as goal

abbrev pub invariant-loop-index : goal.invariant-loop-index
invariant-loop-index l = record {
  long : length l.block ≡ 8;
  done : (j : ℕ) → j < l.index → get_or l.block j 0 ≡ get_or l.bytes (l.from + j) 0;
}
