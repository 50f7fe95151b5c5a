use Rattle.cat_ledger_state.proofs.flushes.write_last.Goals as goal

pub remove_segment-requires-clause-had : goal.remove_segment-requires-clause-had
remove_segment-requires-clause-had g c = c.requires.had

pub returns-clause-given : goal.returns-clause-given
returns-clause-given g c = c.remove_segment.ensures.refs
