use Rattle.std.proofs.Common.{refl, rules}
use Rattle.cat_query.proofs.Judging.{read_refused, read_built, read_faulty}
use Rattle.cat_query.proofs.query.Query.read.Goals as goal

pub returns-in_err-clauses-in-Ok-clause-gives : goal.returns-in_err-clauses-in-Ok-clause-gives
returns-in_err-clauses-in-Ok-clause-gives c =
    let reads = rw c.fields.ensures.value at c.in-Ok.ensures in
    read_refused c.args.schema.now c.args.text.now c.from_residual.result c.in-Ok.clauses _ (search rules) c.in_err-clauses-in-Ok.was reads

pub returns-in_ok-clauses-in-Ok-clause-gives : goal.returns-in_ok-clauses-in-Ok-clause-gives
returns-in_ok-clauses-in-Ok-clause-gives c =
    let reads = rw c.fields.ensures.value at c.in-Ok.ensures in
    read_built c.args.schema.now c.args.text.now _ c.in-Ok.clauses c.in_ok-clauses-in-Ok.field-0 refl c.in_ok-clauses-in-Ok.was reads

pub returns-in-Err-clause-gives : goal.returns-in-Err-clause-gives
returns-in-Err-clause-gives c =
    let fails = rw c.fields.ensures.value at c.in-Err.ensures in
    read_faulty c.args.schema.now c.args.text.now c.saturating_sub.result c.in-Err.left c.saturating_sub.ensures fails
