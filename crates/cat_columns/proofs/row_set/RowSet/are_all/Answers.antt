use Rattle.cat_columns.proofs.Fulls.{packed_full, full_packed}
use Rattle.cat_columns.proofs.row_set.RowSet.are_all.Goals as goal

pub returns-then-bytes-len : goal.returns-then-bytes-len
returns-then-bytes-len c = (
  λ t. packed_full c.args.bytes.now c.args.len c.if-bytes-len.true (λ k lt. (c.type_inv.bytes k).fits) (c.is_full.ensures.0 t),
  λ p. c.is_full.ensures.1 (full_packed c.args.bytes.now c.args.len p).1,
)
