use Rattle.cat_model.proofs.Sayings.{one_schema}
use Rattle.cat_model.proofs.schema_lines_say_one_thing.Goals as goal

pub returns : goal.returns
returns c = one_schema
