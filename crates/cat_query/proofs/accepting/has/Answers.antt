use Rattle.cat_query.proofs.Sets.{any_from_Contains}
use Rattle.cat_query.proofs.accepting.has.Goals as goal

pub returns : goal.returns
returns c = any_from_Contains c.contains.result c.args.text.now c.args.texts.now (rw c.as_str.ensures at c.contains.ensures)
