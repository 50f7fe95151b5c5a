use Rattle.cat_threads.proofs.history.steps.part_into.Goals as goal

pub part-requires : goal.part-requires
part-requires c = c.requires

pub returns-clause-desk : goal.returns-clause-desk
returns-clause-desk c = c.part.ensures.desk

pub returns-clause-mine : goal.returns-clause-mine
returns-clause-mine c = c.part.ensures.mine
