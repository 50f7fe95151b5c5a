use Rattle.cat_model.proofs.TalkSample.{sample}
use Rattle.cat_model.proofs.talk_sample_is_judged.Goals as goal

pub returns : goal.returns
returns c = sample
