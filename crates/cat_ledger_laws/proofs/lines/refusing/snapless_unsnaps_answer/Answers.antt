use Rattle.cat_ledger_laws.proofs.lines.RefusalAnswers.{snapless_unsnaps_answer}
use Rattle.cat_ledger_laws.proofs.lines.refusing.snapless_unsnaps_answer.Goals as goal

pub returns : goal.returns
returns c = snapless_unsnaps_answer
