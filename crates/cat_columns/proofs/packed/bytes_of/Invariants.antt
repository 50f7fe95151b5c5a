use Rattle.std.proofs.Common.{◌≡◌, ℕ, ◌*◌, ◌<◌, length}
use Rattle.std.specs.Prelude.{All}
use Rattle.cat_columns.specs.Bits.{is_set, has_row_bit}
use Rattle.cat_columns.proofs.packed.bytes_of.Given as goal

abbrev pub invariant-loop-index : goal.invariant-loop-index
invariant-loop-index l = record {
  long : length l.bytes.items ≡ l.index;
  fits : All (λ b. b < 256) l.bytes.items;
  bits : (row : ℕ) → row < 8 * l.index → has_row_bit l.bytes.items row ≡ is_set l.blocks row;
}
