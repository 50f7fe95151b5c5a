use Rattle.std.proofs.Common.{sym, ap, ◌∙◌, ℕ}
use Rattle.cat_threads.proofs.history.Keeps.{seats}
use Rattle.crossbeam_utils.specs.Seq.{cell_view}
use Rattle.cat_threads.specs.history.Rules.{seating, seat_for}
use Rattle.cat_threads.proofs.history.steps.seat_as.Goals as goal

pub split-requires-clause-own : goal.split-requires-clause-own
split-requires-clause-own g c = c.requires.desk.0

pub split-requires-clause-rule : goal.split-requires-clause-rule
split-requires-clause-rule g c = rw (sym c.requires.session) (seats _ _ _ c.requires.desk.1 c.requires.free)

pub returns-clause-desk : goal.returns-clause-desk
returns-clause-desk g c = (
  c.split.ensures.kept.0,
  c.split.ensures.kept.1 ∙ ap (λ (s : ℕ). seating s (cell_view c.args.desk.now)) (sym c.requires.session),
)

pub returns-clause-mine : goal.returns-clause-mine
returns-clause-mine g c = (
  c.split.ensures.given.0,
  c.split.ensures.given.1 ∙ ap (λ (s : ℕ). seat_for s (cell_view c.args.desk.now)) (sym c.requires.session),
)
