use Rattle.cat_callers.proofs.Differing.{differ}
use Rattle.cat_callers.proofs.numbers.rise.Goals as goal

pub returns : goal.returns
returns c = λ yes. differ c.args.numbers.now (c.rises.ensures.0 yes)
