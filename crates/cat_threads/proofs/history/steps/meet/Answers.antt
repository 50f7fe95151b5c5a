use Rattle.cat_threads.proofs.history.steps.meet.Goals as goal

pub tell-requires-clause-one : goal.tell-requires-clause-one
tell-requires-clause-one g c = c.requires.one

pub tell-requires-clause-two : goal.tell-requires-clause-two
tell-requires-clause-two g c = c.requires.two.0
