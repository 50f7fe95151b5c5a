use Rattle.cat_threads.proofs.history.Keeps.{parts}
use Rattle.crossbeam_utils.specs.Seq.{cell_view}
use Rattle.cat_threads.proofs.history.Stepped.{parted_is}
use Rattle.cat_threads.proofs.history.steps.part.Goals as goal

pub split-requires-clause-own : goal.split-requires-clause-own
split-requires-clause-own c = c.requires.0

pub split-requires-clause-rule : goal.split-requires-clause-rule
split-requires-clause-rule c = parts _ _

pub returns-clause-desk : goal.returns-clause-desk
returns-clause-desk c = (c.split.ensures.kept.0, parted_is (cell_view c.args.desk.now) (cell_view c.split.new.seat) c.requires.1 c.split.ensures.kept.1)

pub returns-clause-mine : goal.returns-clause-mine
returns-clause-mine c = (c.split.ensures.given.0, c.split.ensures.given.1)
