use Rattle.cat_ledger.proofs.views.hold_recorded.Goals as goal

pub returns-then-is_held_by-clause-due : goal.returns-then-is_held_by-clause-due
returns-then-is_held_by-clause-due c = tt

pub returns-clause-held : goal.returns-clause-held
returns-clause-held c = c.hold.ensures.ok
