use Rattle.cat_ledger_laws.proofs.lines.NeededFiles.{needed_names_stand}
use Rattle.cat_ledger_laws.proofs.lines.needing.needed_names_stand.Goals as goal

pub returns : goal.returns
returns c = needed_names_stand
