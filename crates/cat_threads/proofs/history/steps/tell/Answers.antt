use Rattle.std.proofs.Common.{sym, ap, ◌∙◌}
use Rattle.cat_threads.specs.history.Rules.{Sight}
use Rattle.cat_threads.proofs.history.Keeps.{gives_note, levels_as, checks}
use Rattle.crossbeam_utils.specs.Seq.{cell_view}
use Rattle.cat_threads.proofs.history.Stepped.{levelled_is, levelled_seen}
use Rattle.cat_threads.proofs.history.steps.tell.Goals as goal

pub split-note-requires-clause-own : goal.split-note-requires-clause-own
split-note-requires-clause-own g c = c.requires.two

pub split-note-requires-clause-rule : goal.split-note-requires-clause-rule
split-note-requires-clause-rule g c = gives_note _ _

pub take_in-requires-clause-own : goal.take_in-requires-clause-own
take_in-requires-clause-own g c =
    let s = c.split-note.ensures.given in
    (c.requires.one.0, s.0 ∙ c.requires.two ∙ sym c.requires.one.0, s.2)

pub take_in-requires-clause-rule : goal.take_in-requires-clause-rule
take_in-requires-clause-rule g c = levels_as _ _ _ _ c.requires.one.1 (ap (λ (v : Sight). v.own) c.split-note.ensures.given.1)

pub load-requires-clause-own : goal.load-requires-clause-own
load-requires-clause-own g c = c.take_in.ensures.0 ∙ c.requires.one.0

pub load-requires-clause-rule : goal.load-requires-clause-rule
load-requires-clause-rule g c = checks _ _

pub returns-clause-one : goal.returns-clause-one
returns-clause-one g c = (
  c.load.ensures.own ∙ c.take_in.ensures.0,
  levelled_is (cell_view c.args.one.now) (cell_view c.args.two.now) (cell_view c.split-note.result) (cell_view c.take_in.new.seat) (cell_view c.load.new.seat) c.load.result c.load.result
      c.requires.one.1 c.split-note.ensures.given.1 c.take_in.ensures.1 c.load.ensures.rule,
)

pub returns-clause-two : goal.returns-clause-two
returns-clause-two g c = c.split-note.ensures.kept

pub returns-clause-seen : goal.returns-clause-seen
returns-clause-seen g c =
    levelled_seen (cell_view c.args.one.now) (cell_view c.args.two.now) (cell_view c.split-note.result) (cell_view c.take_in.new.seat) (cell_view c.load.new.seat) c.load.result c.load.result
    c.requires.one.1 c.split-note.ensures.given.1 c.take_in.ensures.1 c.load.ensures.rule
