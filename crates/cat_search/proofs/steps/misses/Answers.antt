use Rattle.std.proofs.Common.{sym, ◌∙◌, arith}
use Rattle.cat_search.proofs.Missed.{missed_more}
use Rattle.cat_search.proofs.steps.misses.Goals as goal

pub loop-row-preserved : goal.loop-row-preserved
loop-row-preserved c = record {
  count = omega (arith, c.loop-row.invariant.count);
  missed = missed_more c.args.set.now c.args.rows.now c.loop-row.row-index c.loop-row-test.true c.loop-row.invariant.missed (sym c.contains.ensures ∙ c.if-contains.false);
}
