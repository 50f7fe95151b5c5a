use Rattle.cat_model.proofs.TalkWhole.{answers_of_any_start}
use Rattle.cat_model.proofs.answers_are_talks.Goals as goal

pub returns : goal.returns
returns c = answers_of_any_start
