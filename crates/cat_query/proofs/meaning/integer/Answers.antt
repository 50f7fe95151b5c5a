use Rattle.std.proofs.Common.{sym, ◌∙◌}
use Rattle.cat_query.proofs.Integers.{integer_plus, integer_stays, parsed}
use Rattle.cat_query.proofs.meaning.integer.Goals as goal

pub returns-in-Some : goal.returns-in-Some
returns-in-Some c = sym (integer_stays c.args.text.now c.requires ∙ rw c.in-Some.ensures (integer_plus c.in-Some.field-0.now))

pub returns-in-None : goal.returns-in-None
returns-in-None c = c.ok.ensures.value ∙ parsed c.args.text.now c.parse.result c.parse.ensures.value.0 c.in-None.ensures ∙ sym (integer_stays c.args.text.now c.requires)
