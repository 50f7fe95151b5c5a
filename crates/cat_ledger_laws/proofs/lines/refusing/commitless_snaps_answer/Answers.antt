use Rattle.cat_ledger_laws.proofs.lines.RefusalAnswers.{commitless_snaps_answer}
use Rattle.cat_ledger_laws.proofs.lines.refusing.commitless_snaps_answer.Goals as goal

pub returns : goal.returns
returns c = commitless_snaps_answer
