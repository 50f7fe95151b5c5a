use Rattle.std.proofs.Common.{sym}
use Rattle.cat_ledger.proofs.ledger.Ledger.commit_files.Goals as goal

pub returns-in-Err-clause-due : goal.returns-in-Err-clause-due
returns-in-Err-clause-due g c = rw (← c.self.view_is) (λ _. (c.in-Some.commit.now, sym c.in-Some.ensures))
