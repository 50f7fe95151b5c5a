use Rattle.std.proofs.Common.{◌≡◌, ℕ, ◌*◌, ◌<◌, true, replicate}
use Rattle.cat_model.specs.RowSets.{has_row}
use Rattle.cat_columns.specs.Bits.{has_row_bit}
use Rattle.cat_columns.proofs.packed.is_full.Given as goal

abbrev pub invariant-loop-index : goal.invariant-loop-index
invariant-loop-index l = (r : ℕ) → r < 8 * l.index → has_row_bit l.bytes r ≡ has_row (replicate l.len true) r
