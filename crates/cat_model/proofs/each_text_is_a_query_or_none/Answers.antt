use Rattle.cat_model.proofs.Sayings.{one_text}
use Rattle.cat_model.proofs.each_text_is_a_query_or_none.Goals as goal

pub returns : goal.returns
returns c = one_text
