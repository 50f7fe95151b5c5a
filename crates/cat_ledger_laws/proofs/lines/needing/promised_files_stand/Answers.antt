use Rattle.cat_ledger_laws.proofs.lines.NeededFiles.{promised_files_stand}
use Rattle.cat_ledger_laws.proofs.lines.needing.promised_files_stand.Goals as goal

pub returns : goal.returns
returns c = promised_files_stand
