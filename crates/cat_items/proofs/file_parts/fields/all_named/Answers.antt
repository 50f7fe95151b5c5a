use Rattle.std.proofs.Common.{arith}
use Rattle.std.proofs.lemmas.Grind.{elements}
use Rattle.cat_items.proofs.file_parts.fields.all_named.Goals as goal

pub returns : goal.returns
returns c = grind (arith, elements)
