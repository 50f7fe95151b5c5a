use Rattle.std.proofs.Common.{sym, ◌∙◌, Some, None}
use Rattle.cat_query.specs.Escapes.{unescaped}
use Rattle.cat_query.proofs.ValueSteps.{value_quoted, range_value, bare_value}
use Rattle.cat_query.proofs.values.read_value.Goals as goal

pub returns-in_err-text-clause-parts : goal.returns-in_err-text-clause-parts
returns-in_err-text-clause-parts c = rw c.from_residual.ensures (value_quoted c.args.text.now c.in-Some.inner.now None c.in-Some.ensures c.in_err-text.ensures.parts)

pub returns-in-Some-clause-parts : goal.returns-in-Some-clause-parts
returns-in-Some-clause-parts c = value_quoted c.args.text.now c.in-Some.inner.now (Some (unescaped c.in_ok-text.text.now, c.in_ok-text.rest.now)) c.in-Some.ensures c.in_ok-text.ensures.parts

pub returns-in-Some-behind-clause-parts : goal.returns-in-Some-behind-clause-parts
returns-in-Some-behind-clause-parts c = rw (c.in-Some-behind.ensures, range_value c.in-Some-behind.inner.now) c.range.ensures.parts

pub returns-in-None-clause-parts : goal.returns-in-None-clause-parts
returns-in-None-clause-parts c = c.bare_value.ensures.parts ∙ sym (bare_value c.args.text.now c.in_default.ensures c.in-None.ensures)
