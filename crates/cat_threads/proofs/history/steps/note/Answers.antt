use Rattle.std.proofs.Common.{[], ◌∷◌}
use Rattle.cat_threads.proofs.history.Keeps.{notes_as}
use Rattle.cat_threads.proofs.history.steps.note.Goals as goal

pub swap-requires-clause-own : goal.swap-requires-clause-own
swap-requires-clause-own g c = c.requires.desk.0

pub swap-requires-clause-rule : goal.swap-requires-clause-rule
swap-requires-clause-rule g c =
    let w = c.requires.words in
    notes_as _ _ g.W.Noting.entry (c.args.count ∷ c.args.token ∷ []) c.requires.desk.1 c.requires.own w.0 w.1

pub returns : goal.returns
returns g c = (c.swap.ensures.own, c.swap.ensures.rule)
