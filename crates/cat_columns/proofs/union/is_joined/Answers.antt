use Rattle.std.proofs.Common.{arith}
use Rattle.std.proofs.lemmas.Bool.{le-leb}
use Rattle.cat_columns.proofs.union.is_joined.Goals as goal

pub returns-then-below-least : goal.returns-then-below-least
returns-then-below-least c = λ _ _. le-leb c.args.below c.args.least c.if-below-least.true

pub returns-else-below-least : goal.returns-else-below-least
returns-else-below-least c = λ most fits. absurd (omega (arith, most, fits, c.if-below-least.false))
