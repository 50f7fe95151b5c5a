use Rattle.std.proofs.Common.{arith}
use Rattle.std.proofs.lemmas.Grind.{common_steps}
use Rattle.cat_callers.proofs.Spelled.{alone, cut}
use Rattle.cat_callers.proofs.routes.first_word.Goals as goal

pub returns-in-Some-clause-spelled : goal.returns-in-Some-clause-spelled
returns-in-Some-clause-spelled c = λ session shows.
    let space = c.in-Some.ensures in
    cut c.args.line.now c.split_at.result.0.now c.in-Some.at session space.within space.found space.first c.split_at.ensures.front shows

pub returns-in-None-clause-spelled : goal.returns-in-None-clause-spelled
returns-in-None-clause-spelled c = λ session shows. alone c.args.line.now session c.in-None.ensures.none shows

pub returns-in-Some-clause-shown : goal.returns-in-Some-clause-shown
returns-in-Some-clause-shown c = grind (arith, common_steps)
