use Rattle.cat_ledger_state.proofs.installs.write_new.Goals as goal

pub returns-in-Some-clause-fails : goal.returns-in-Some-clause-fails
returns-in-Some-clause-fails g c = c.write_segment.ensures.fails
