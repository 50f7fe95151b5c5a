use Rattle.std.proofs.Common.{arith, below_more}
use Rattle.cat_segment.specs.Fields.{AreFitting}
use Rattle.cat_segment.proofs.Filled.{filled_at}
use Rattle.cat_segment.proofs.Made.{columns_more}
use Rattle.cat_segment.proofs.building.columns_of.Goals as goal

pub column_of-requires-clause-filled : goal.column_of-requires-clause-filled
column_of-requires-clause-filled c = λ k d lt.
    rw c.kind.ensures (filled_at c.args.fields.now _ c.loop-index.index c.index-fields-index.result (c.requires.typed k d lt) (omega arith) c.index-fields-index.is)

pub loop-index-preserved : goal.loop-index-preserved
loop-index-preserved c = record {
  same = columns_more c.args.rows.now c.loop-index.columns.items c.push.new.self.items c.in_ok-column_of.field-0 c.loop-index.index c.in_ok-push.ensures.items c.in_ok-column_of.ensures.ok c.loop-index.invariant.same;
  fitting = below_more (λ k. AreFitting k c.args.rows.now) c.loop-index.index c.loop-index.invariant.fitting c.in_ok-column_of.ensures.fitting;
}
