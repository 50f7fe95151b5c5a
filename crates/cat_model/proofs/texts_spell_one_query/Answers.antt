use Rattle.cat_model.proofs.QueryLaws.{one_query}
use Rattle.cat_model.proofs.texts_spell_one_query.Goals as goal

pub returns : goal.returns
returns c = one_query
