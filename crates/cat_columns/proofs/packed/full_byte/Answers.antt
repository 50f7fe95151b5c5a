use Rattle.std.proofs.Common.{◌-◌, ◌%◌, ap, arith}
use Rattle.std.proofs.lemmas.Nat.{one_shl}
use Rattle.cat_columns.proofs.Fulls.{whole_byte, last_byte}
use Rattle.cat_columns.proofs.packed.full_byte.Goals as goal

pub returns-then-index-len : goal.returns-then-index-len
returns-then-index-len c = λ i lt. whole_byte c.args.len c.args.index i c.if-index-len.true lt

pub returns-else-index-len : goal.returns-else-index-len
returns-else-index-len c = λ i lt. last_byte c.args.len c.args.index _ i (omega (arith, c.if-index-len.false, c.requires)) (ap (λ n. n - 1) (one_shl (c.args.len % 8) 8 (omega arith))) lt
