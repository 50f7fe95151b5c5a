use Rattle.std.proofs.Common.{arith, sym, refl}
use Rattle.std.proofs.lemmas.Bool.{true≢false}
use Rattle.cat_columns.proofs.Fulls.{full_more, not_full, full_all}
use Rattle.cat_columns.proofs.packed.is_full.Goals as goal

pub loop-index-preserved : goal.loop-index-preserved
loop-index-preserved c = full_more c.args.bytes.now c.args.len c.loop-index.index c.full_byte.result c.if-bytes-index.false c.full_byte.ensures c.loop-index.invariant

pub returns-then-bytes-index : goal.returns-then-bytes-index
returns-then-bytes-index c = (
  λ t. absurd (true≢false (sym t)),
  λ all. absurd (not_full c.args.bytes.now c.args.len c.loop-index.index c.full_byte.result ((c.type_inv.bytes c.loop-index.index).fits) c.full_byte.type_inv c.if-bytes-index.true c.full_byte.ensures all),
)

pub returns : goal.returns
returns c = (λ t. full_all c.args.bytes.now c.args.len c.requires (λ r lt. c.loop-index.invariant r (omega (arith, c.loop-index-test.false))), λ all. refl)
