use Rattle.cat_items.proofs.SchemaTexts.{rules_kept}
use Rattle.cat_items.proofs.laws.texts_of_schemas_keep_the_rules.Goals as goal

pub returns : goal.returns
returns c = rules_kept
