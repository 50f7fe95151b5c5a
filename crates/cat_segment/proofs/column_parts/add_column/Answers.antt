use Rattle.std.proofs.lemmas.Result.{err_from_is_err_and}
use Rattle.cat_segment.specs.Contents.{contents_of}
use Rattle.cat_segment.proofs.column_parts.add_column.Goals as goal

pub returns-in_err-column-clause-damaged : goal.returns-in_err-column-clause-damaged
returns-in_err-column-clause-damaged c =
    let p = err_from_is_err_and c.from_residual.result c.from_residual.ensures.1 in
    rw (p.1, p.2) c.in_err-column.ensures.damaged

pub returns-in_err-column-clause-due : goal.returns-in_err-column-clause-due
returns-in_err-column-clause-due c =
    let p = err_from_is_err_and c.from_residual.result c.from_residual.ensures.1 in
    rw (p.1, p.2) c.in_err-column.ensures.due

pub returns-in_err-column-clause-refusal : goal.returns-in_err-column-clause-refusal
returns-in_err-column-clause-refusal c =
    let p = err_from_is_err_and c.from_residual.result c.from_residual.ensures.1 in
    rw (p.1, p.2) c.in_err-column.ensures.refusal

pub returns-in_err-push-clause-due : goal.returns-in_err-push-clause-due
returns-in_err-push-clause-due c =
    let p = err_from_is_err_and c.from_residual-in_err-push.result c.from_residual-in_err-push.ensures.1 in
    let made = c.in_ok-column.ensures.ok in
    rw (p.1, p.2) (λ is none. none (contents_of c.in_ok-column.column) made.contents made.spelled)

pub returns-clause-ok : goal.returns-clause-ok
returns-clause-ok c = (c.in_ok-column.column, c.in_ok-column.ensures.ok, c.in_ok-push.ensures.items)
