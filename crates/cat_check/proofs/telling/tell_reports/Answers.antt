use Rattle.cat_check.specs.Telling.{report_text}
use Rattle.cat_check.proofs.Pieces.{item_more}
use Rattle.cat_check.proofs.telling.tell_reports.Goals as goal

pub loop-report-preserved : goal.loop-report-preserved
loop-report-preserved g c =
    item_more report_text c.args.reports.now c.loop-report.report-index c.report-item.result _ _ _ c.loop-report-test.true c.report-item.is c.loop-report.invariant
    c.in_ok-tell_report.ensures.text
