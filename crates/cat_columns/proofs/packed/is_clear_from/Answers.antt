use Rattle.std.proofs.Common.{◌/◌, eqb, ap, arith}
use Rattle.cat_columns.proofs.Bytes.{clear_from, row_bit_past}
use Rattle.cat_columns.proofs.packed.is_clear_from.Goals as goal

pub returns-then-row-eq0 : goal.returns-then-row-eq0
returns-then-row-eq0 c = (λ _ row le. row_bit_past c.args.bytes.now row (omega (arith, le, c.requires, c.if-row-eq0.true)), λ _. ap (λ n. eqb n 0) c.if-row-eq0.true)

pub returns-else-row-eq0 : goal.returns-else-row-eq0
returns-else-row-eq0 c = clear_from c.args.bytes.now c.args.row c.requires c.if-row-eq0.false ((c.type_inv.bytes (c.args.row / 8)).fits)
