use Rattle.cat_items.proofs.SchemaTexts.{lines_one_way}
use Rattle.cat_items.proofs.laws.every_line_is_heard_one_way.Goals as goal

pub returns : goal.returns
returns c = lines_one_way
