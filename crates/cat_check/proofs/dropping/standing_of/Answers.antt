use Rattle.cat_check.specs.Judged.{IsLost}
use Rattle.cat_commits.proofs.Frames.{so_before}
use Rattle.cat_check.proofs.Before.{if_true, if_false}
use Rattle.cat_check.proofs.dropping.standing_of.Goals as goal

pub returns-then-not-whole-clause-ok : goal.returns-then-not-whole-clause-ok
returns-then-not-whole-clause-ok g c = (
  c.in-Some.ensures,
  if_true c.in_ok-torn.torn _ _ c.if-not-torn.false c.in_ok-torn.ensures.ok,
  c.in-Some-commit_below.ensures,
  so_before (λ t. IsLost t c.in-Some-commit_below.below) c.in_ok-torn.ensures.frame (if_false c.in_ok-whole.whole _ _ c.if-not-whole.true c.in_ok-whole.ensures.ok),
)
