use Rattle.cat_items.proofs.SchemaTexts.{inputs_one_way}
use Rattle.cat_items.proofs.laws.every_input_is_heard_one_way.Goals as goal

pub returns : goal.returns
returns c = inputs_one_way
