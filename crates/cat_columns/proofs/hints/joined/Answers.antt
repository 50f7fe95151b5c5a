use Rattle.std.proofs.Common.{refl, subst}
use Rattle.cat_columns.specs.Hints.{Allows}
use Rattle.cat_columns.proofs.hints.joined.Goals as goal

pub returns-in-Empty : goal.returns-in-Empty
returns-in-Empty c = record { here = refl; kept = λ other allows. absurd (subst (λ hint. Allows hint other) c.in-Empty.is allows) }

pub returns-in-One : goal.returns-in-One
returns-in-One c = record { here = tt; kept = λ _ _. tt }
