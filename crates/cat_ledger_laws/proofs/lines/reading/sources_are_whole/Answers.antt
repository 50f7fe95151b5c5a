use Rattle.cat_ledger_laws.proofs.lines.ReadAnswers.{sources_are_whole}
use Rattle.cat_ledger_laws.proofs.lines.reading.sources_are_whole.Goals as goal

pub returns : goal.returns
returns c = sources_are_whole
