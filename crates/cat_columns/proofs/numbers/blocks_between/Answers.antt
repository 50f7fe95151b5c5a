use Rattle.std.proofs.Common.{◌∙◌, rules}
use Rattle.cat_columns.specs.Columns.{is_between}
use Rattle.cat_columns.proofs.Packs.{packed_none, packed_more, packed_all}
use Rattle.cat_columns.proofs.numbers.blocks_between.Goals as goal

pub loop-chunk-init : goal.loop-chunk-init
loop-chunk-init c = record {
  size = search rules;
  packed = packed_none _ _ _ _ c.in_ok-blocks.ensures.items (search rules);
}

pub loop-chunk-preserved : goal.loop-chunk-preserved
loop-chunk-preserved c =
    let steps = c.in-Some.ensures.steps in record {
      size = steps.0 ∙ c.loop-chunk.invariant.size;
      packed = packed_more (is_between c.args.low c.args.high) c.args.values.now _ _ _ _ _ _ _ c.loop-chunk.invariant.packed c.loop-chunk.invariant.size steps.1.0 steps.1.1 steps.1.2 c.in_ok-push.ensures.items c.block_between.ensures;
    }

pub returns-clause-long : goal.returns-clause-long
returns-clause-long c = (packed_all (is_between c.args.low c.args.high) c.args.values.now _ c.loop-chunk.blocks.items c.loop-chunk.invariant.packed c.in-None.ensures.steps.1.0).0

pub returns-clause-bits : goal.returns-clause-bits
returns-clause-bits c = (packed_all (is_between c.args.low c.args.high) c.args.values.now _ c.loop-chunk.blocks.items c.loop-chunk.invariant.packed c.in-None.ensures.steps.1.0).1
