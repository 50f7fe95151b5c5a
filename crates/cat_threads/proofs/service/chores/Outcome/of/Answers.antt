use Rattle.std.proofs.Common.{refl}
use Rattle.cat_threads.proofs.service.chores.Outcome.of.Goals as goal

pub returns-clause-chore : goal.returns-clause-chore
returns-clause-chore c = refl

pub returns-clause-answer : goal.returns-clause-answer
returns-clause-answer c = refl
