use Rattle.std.proofs.Common.{◌≡◌, ℕ, pos, ◌<◌, ◌≤◌, false, get_or}
use Rattle.cat_columns.specs.Bits.{has_bit}
use Rattle.cat_columns.specs.Columns.{is_between}
use Rattle.cat_columns.proofs.numbers.block_between.Given as goal

abbrev pub invariant-loop-bit : goal.invariant-loop-bit
invariant-loop-bit l = record {
  done : (i : ℕ) → i < l.bit → has_bit l.block i ≡ is_between l.fn.low l.fn.high (get_or l.values i (pos 0));
  left : (i : ℕ) → l.bit ≤ i → has_bit l.block i ≡ false;
}
