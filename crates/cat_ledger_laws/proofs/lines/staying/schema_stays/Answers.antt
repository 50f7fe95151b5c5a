use Rattle.cat_ledger_laws.proofs.lines.KeptCalls.{schema_stays}
use Rattle.cat_ledger_laws.proofs.lines.staying.schema_stays.Goals as goal

pub returns : goal.returns
returns c = schema_stays
