use Rattle.std.proofs.Common.{arith}
use Rattle.std.proofs.lemmas.Grind.{common_steps, elements}
use Rattle.cat_items.proofs.forms.has_name_form.Goals as goal

pub returns-then-all_name_bytes : goal.returns-then-all_name_bytes
returns-then-all_name_bytes c = grind (arith, common_steps)

pub returns-else-all_name_bytes : goal.returns-else-all_name_bytes
returns-else-all_name_bytes c = grind (arith, elements)
