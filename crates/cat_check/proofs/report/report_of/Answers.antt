use Rattle.cat_check.specs.Said.{IsTorn}
use Rattle.cat_commits.proofs.Frames.{so_after}
use Rattle.cat_check.proofs.Before.{reported_before}
use Rattle.cat_check.proofs.report.report_of.Goals as goal

pub report_torn-requires : goal.report_torn-requires
report_torn-requires g c = so_after (λ t. IsTorn t c.args.generation) c.in-Err-Damaged.ensures.frame (c.in-Err-Damaged.ensures.torn c.in-Err-Damaged.field-0-is)

pub returns-in-Ok-clause-judged : goal.returns-in-Ok-clause-judged
returns-in-Ok-clause-judged g c = reported_before c.args.generation c.report_said.result c.in-Ok.ensures.frame c.report_said.ensures.judged

pub returns-in-Err-Damaged-clause-judged : goal.returns-in-Err-Damaged-clause-judged
returns-in-Err-Damaged-clause-judged g c = reported_before c.args.generation c.report_torn.result c.in-Err-Damaged.ensures.frame c.report_torn.ensures.judged
