use Rattle.cat_ledger_laws.proofs.lines.Numbered.{numbers_rise}
use Rattle.cat_ledger_laws.proofs.lines.staying.numbers_rise.Goals as goal

pub returns : goal.returns
returns c = numbers_rise
