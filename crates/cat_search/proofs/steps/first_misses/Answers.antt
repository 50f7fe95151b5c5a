use Rattle.std.proofs.Common.{◌∙◌, ◌≤◌, take, ap, subst}
use Rattle.std.specs.List.{All}
use Rattle.std.proofs.lemmas.List.{take-take}
use Rattle.cat_search.proofs.Missed.{IsMiss}
use Rattle.cat_search.proofs.steps.first_misses.Goals as goal

pub returns-clause-missed : goal.returns-clause-missed
returns-clause-missed c =
    let n = c.misses.result in
    let near = c.split_at.ensures in
    subst (All (IsMiss c.args.set.now)) (ap (take n) near.front ∙ take-take n c.min.result c.args.rows.now (subst (λ k. n ≤ k) near.front_len c.misses.ensures.bound)) c.misses.ensures.missed
