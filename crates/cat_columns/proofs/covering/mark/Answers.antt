use Rattle.std.proofs.Common.{◌∙◌, arith}
use Rattle.cat_columns.specs.Bits.{is_set}
use Rattle.cat_columns.proofs.Marks.{marked_in, marked_out}
use Rattle.cat_columns.proofs.covering.mark.Goals as goal

pub returns-then-number-from : goal.returns-then-number-from
returns-then-number-from c = λ k lt. marked_out (is_set c.args.blocks.now k) c.args.number c.args.from k (λ e. omega arith)

pub returns-then-number-from-2 : goal.returns-then-number-from-2
returns-then-number-from-2 c = λ k lt. marked_out (is_set c.args.blocks.now k) c.args.number c.args.from k (λ e. omega arith)

pub returns : goal.returns
returns c = λ k lt. c.set_row.ensures k ∙ marked_in (is_set c.args.blocks.now k) c.args.number c.args.from k (omega arith)
