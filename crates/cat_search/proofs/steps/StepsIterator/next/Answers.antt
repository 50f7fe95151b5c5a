use Rattle.std.proofs.Common.{sym, ◌∙◌, ap, arith, length}
use Rattle.cat_search.proofs.steps.StepsIterator.next.Goals as goal

pub returns-in-None-clause-steps : goal.returns-in-None-clause-steps
returns-in-None-clause-steps c = let none = sym c.self.view_is ∙ c.in-None.ensures in (none, none)

pub returns-in-Some-clause-steps : goal.returns-in-Some-clause-steps
returns-in-Some-clause-steps c = sym c.self.view_is ∙ c.in-Some.ensures.rows

pub returns-in-Some-clause-goes : goal.returns-in-Some-clause-goes
returns-in-Some-clause-goes c =
    let step = ap length (returns-in-Some-clause-steps c) in record { on = λ _. (tt, tt, omega (arith, step)); keeps = tt; rests = λ _. tt }
