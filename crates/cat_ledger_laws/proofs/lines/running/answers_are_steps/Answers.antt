use Rattle.cat_ledger_laws.proofs.lines.Answered.{answers_are_steps}
use Rattle.cat_ledger_laws.proofs.lines.running.answers_are_steps.Goals as goal

pub returns : goal.returns
returns c = answers_are_steps
