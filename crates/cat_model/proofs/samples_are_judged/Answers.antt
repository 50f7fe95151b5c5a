use Rattle.cat_model.proofs.QuerySamples.{samples_are_judged}
use Rattle.cat_model.proofs.samples_are_judged.Goals as goal

pub returns : goal.returns
returns c = samples_are_judged
