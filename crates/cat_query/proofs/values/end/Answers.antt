use Rattle.std.proofs.Common.{sym, Some, None}
use Rattle.cat_query.specs.Escapes.{unescaped}
use Rattle.cat_query.proofs.ValueSteps.{open_end, end_closed}
use Rattle.cat_query.proofs.values.end.Goals as goal

pub returns-in-Some-clause-parts : goal.returns-in-Some-clause-parts
returns-in-Some-clause-parts c = rw c.in-Some.ensures (sym (open_end c.in-Some.rest.now))

pub returns-in_err-text-clause-parts : goal.returns-in_err-text-clause-parts
returns-in_err-text-clause-parts c = rw c.from_residual.ensures (end_closed c.args.text.now None c.in_default.ensures c.in_err-text.ensures.parts)

pub returns-clause-parts : goal.returns-clause-parts
returns-clause-parts c = end_closed c.args.text.now (Some (unescaped c.in_ok-text.text.now, c.in_ok-text.rest.now)) c.in_default.ensures c.in_ok-text.ensures.parts
