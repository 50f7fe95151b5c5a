use Rattle.cat_model.proofs.TalkLaw.{talks_of_one_start}
use Rattle.cat_model.proofs.talks_agree.Goals as goal

pub returns : goal.returns
returns c = talks_of_one_start
