use Rattle.std.proofs.Common.{sym, ◌∙◌}
use Rattle.cat_threads.proofs.history.Keeps.{takes_whole, goes_under_as, checks}
use Rattle.crossbeam_utils.specs.Seq.{cell_view}
use Rattle.cat_threads.proofs.history.Stepped.{joined_is, joined_seen, joined_sessions}
use Rattle.cat_threads.proofs.history.steps.join.Goals as goal

pub split-theirs-requires-clause-own : goal.split-theirs-requires-clause-own
split-theirs-requires-clause-own g c = c.requires.mine.0

pub split-theirs-requires-clause-rule : goal.split-theirs-requires-clause-rule
split-theirs-requires-clause-rule g c = takes_whole _ _ c.requires.mine.1

pub take_in-requires-clause-own : goal.take_in-requires-clause-own
take_in-requires-clause-own g c =
    let s = c.split-theirs.ensures.given in
    (c.requires.desk.0, s.0 ∙ c.requires.mine.0 ∙ sym c.requires.desk.0, s.2)

pub take_in-requires-clause-rule : goal.take_in-requires-clause-rule
take_in-requires-clause-rule g c = goes_under_as _ _ _ _ c.requires.desk.1

pub load-requires-clause-own : goal.load-requires-clause-own
load-requires-clause-own g c = c.take_in.ensures.0 ∙ c.requires.desk.0

pub load-requires-clause-rule : goal.load-requires-clause-rule
load-requires-clause-rule g c = checks _ _

pub returns-clause-desk : goal.returns-clause-desk
returns-clause-desk g c = (
  c.load.ensures.own ∙ c.take_in.ensures.0,
  joined_is (cell_view c.args.desk.now) (cell_view c.args.mine.now) (cell_view c.split-theirs.result) (cell_view c.take_in.new.seat) (cell_view c.load.new.seat) c.load.result c.load.result
      c.requires.desk.1 c.split-theirs.ensures.given.1 c.take_in.ensures.1 c.load.ensures.rule,
)

pub returns-clause-seen : goal.returns-clause-seen
returns-clause-seen g c =
    joined_seen (cell_view c.args.desk.now) (cell_view c.args.mine.now) (cell_view c.split-theirs.result) (cell_view c.take_in.new.seat) (cell_view c.load.new.seat) c.load.result c.load.result
    c.requires.desk.1 c.split-theirs.ensures.given.1 c.take_in.ensures.1 c.load.ensures.rule

pub returns-clause-sessions : goal.returns-clause-sessions
returns-clause-sessions g c =
    joined_sessions (cell_view c.args.desk.now) (cell_view c.args.mine.now) (cell_view c.split-theirs.result) (cell_view c.take_in.new.seat) (cell_view c.load.new.seat) c.load.result c.load.result
    c.requires.desk.1 c.split-theirs.ensures.given.1 c.take_in.ensures.1 c.load.ensures.rule
