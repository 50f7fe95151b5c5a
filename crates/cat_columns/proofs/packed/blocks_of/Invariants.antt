use Rattle.std.proofs.Common.{◌≡◌, ℕ, ◌*◌, ◌<◌, length}
use Rattle.cat_columns.specs.Bits.{is_set, has_row_bit}
use Rattle.cat_columns.proofs.packed.blocks_of.Given as goal

abbrev pub invariant-loop-k : goal.invariant-loop-k
invariant-loop-k l = record {
  long : length l.blocks.items ≡ l.k;
  bits : (row : ℕ) → row < 64 * l.k → is_set l.blocks.items row ≡ has_row_bit l.bytes row;
}
