use Rattle.cat_threads.proofs.history.Keeps.{checks}
use Rattle.crossbeam_utils.specs.Seq.{cell_view}
use Rattle.cat_threads.proofs.history.Stepped.{looked_is, looked_sessions}
use Rattle.cat_threads.proofs.history.steps.look.Goals as goal

pub load-requires-clause-own : goal.load-requires-clause-own
load-requires-clause-own g c = c.requires.0

pub load-requires-clause-rule : goal.load-requires-clause-rule
load-requires-clause-rule g c = checks _ _

pub returns-clause-desk : goal.returns-clause-desk
returns-clause-desk g c = (c.load.ensures.own, looked_is (cell_view c.args.desk.now) (cell_view c.load.new.seat) c.load.result c.load.result c.requires.1 c.load.ensures.rule)

pub returns-clause-sessions : goal.returns-clause-sessions
returns-clause-sessions g c = looked_sessions (cell_view c.args.desk.now) (cell_view c.load.new.seat) c.load.result c.load.result c.requires.1 c.load.ensures.rule
