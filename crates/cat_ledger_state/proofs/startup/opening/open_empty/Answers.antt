use Rattle.cat_ledger_state.proofs.startup.opening.open_empty.Goals as goal

pub returns-clause-gone : goal.returns-clause-gone
returns-clause-gone g c = c.in_ok-sync.ensures.gone
