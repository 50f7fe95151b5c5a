use Rattle.std.proofs.Common.{◌/◌, ◌%◌, arith, ◌∙◌, ap}
use Rattle.std.proofs.lemmas.List.{length-set}
use Rattle.cat_columns.specs.Bits.{has_bit}
use Rattle.cat_columns.proofs.Bytes.{block_of_bytes, row_bit, put_more, eight_fit}
use Rattle.cat_columns.proofs.packed.block_at.Goals as goal

pub loop-index-preserved : goal.loop-index-preserved
loop-index-preserved c = record {
  long = length-set c.loop-index.block c.loop-index.index c.byte_or_zero.result ∙ c.loop-index.invariant.long;
  done = put_more c.args.bytes.now c.loop-index.block c.args.from c.loop-index.index c.byte_or_zero.result c.loop-index.invariant.long c.loop-index-test.true c.byte_or_zero.ensures c.loop-index.invariant.done;
}

pub returns : goal.returns
returns c = λ i lt.
    block_of_bytes c.loop-index.block _ i c.loop-index.invariant.long
    (eight_fit c.args.bytes.now c.loop-index.block c.args.from c.loop-index.invariant.long (λ j below. c.loop-index.invariant.done j (omega arith)) (λ j. (c.type_inv.bytes j).fits))
    c.from_le_bytes.ensures lt
    ∙ ap (λ b. has_bit b (i % 8)) (c.loop-index.invariant.done (i / 8) (omega arith)) ∙ row_bit c.args.bytes.now c.args.from i
