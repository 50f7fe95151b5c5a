use Rattle.cat_items.proofs.TalkTexts.{answers_one_talk}
use Rattle.cat_items.proofs.laws.every_answer_is_one_talk.Goals as goal

pub returns : goal.returns
returns c = answers_one_talk
