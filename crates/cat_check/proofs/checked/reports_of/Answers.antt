use Rattle.cat_commits.proofs.Frames.{reads_on}
use Rattle.cat_check.proofs.Before.{one_more, one_more_each}
use Rattle.cat_check.proofs.checked.reports_of.Goals as goal

pub loop-generation-preserved : goal.loop-generation-preserved
loop-generation-preserved g c = record {
  each = one_more_each c.loop-generation.reports.items c.push.new.self.items c.in_ok-report.report c.args.generations.now c.loop-generation.generation-index _ c.loop-generation-test.true
      c.in_ok-report.ensures.generation c.loop-generation.invariant.each c.in_ok-push.ensures.items;
  judged = one_more _ c.loop-generation.reports.items c.push.new.self.items c.in_ok-report.report c.loop-generation.invariant.frame c.loop-generation.invariant.judged
      c.in_ok-report.ensures.generation c.in_ok-report.ensures.judged c.in_ok-push.ensures.items;
  frame = reads_on c.loop-generation.invariant.frame c.in_ok-report.ensures.frame;
}
