use Rattle.cat_ledger_laws.proofs.lines.NeededFiles.{needed_files_stand}
use Rattle.cat_ledger_laws.proofs.lines.needing.needed_files_stand.Goals as goal

pub returns : goal.returns
returns c = needed_files_stand
