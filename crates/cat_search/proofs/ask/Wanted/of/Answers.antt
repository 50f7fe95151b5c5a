use Rattle.cat_search.specs.declared.ask.Wanted.{Wanted}
use Rattle.cat_search.proofs.ViewPages.{is_due, none_due, passed_on, refusal, unmarked, unresolved, wanted_is}
use Rattle.cat_search.proofs.ask.Wanted.of.Goals as goal

pub returns-in_err-order-clause-err : goal.returns-in_err-order-clause-err
returns-in_err-order-clause-err c =
    let e = c.in_err-order.field-0.0 in
    refusal c.args.view.now c.args.ask c.from_residual.result e (passed_on c.from_residual.result e c.from_residual.ensures)
    (unresolved c.args.view.now c.args.ask c.schema.result.now c.schema.ensures e c.in_err-order.ensures.err)

pub returns-in_err-order-clause-due : goal.returns-in_err-order-clause-due
returns-in_err-order-clause-due c =
    let e = c.in_err-order.field-0.0 in
    is_due c.args.view.now c.args.ask c.from_residual.result e (passed_on c.from_residual.result e c.from_residual.ensures)
    (unresolved c.args.view.now c.args.ask c.schema.result.now c.schema.ensures e c.in_err-order.ensures.err)

pub returns-in_err-mark-clause-err : goal.returns-in_err-mark-clause-err
returns-in_err-mark-clause-err c =
    let e = c.in_err-mark.field-0.0 in
    let given = c.from_residual-in_err-mark.result in
    refusal c.args.view.now c.args.ask given e (passed_on given e c.from_residual-in_err-mark.ensures)
    (unmarked c.args.view.now c.args.ask c.schema.result.now c.schema.ensures c.leaves.result.now c.leaves.ensures.value c.in_ok-order.ensures.count.1 c.in_ok-order.ensures.sorts e
    c.in_err-mark.ensures.err)

pub returns-in_err-mark-clause-due : goal.returns-in_err-mark-clause-due
returns-in_err-mark-clause-due c =
    let e = c.in_err-mark.field-0.0 in
    let given = c.from_residual-in_err-mark.result in
    is_due c.args.view.now c.args.ask given e (passed_on given e c.from_residual-in_err-mark.ensures)
    (unmarked c.args.view.now c.args.ask c.schema.result.now c.schema.ensures c.leaves.result.now c.leaves.ensures.value c.in_ok-order.ensures.count.1 c.in_ok-order.ensures.sorts e
    c.in_err-mark.ensures.err)

pub returns-clause-ok : goal.returns-clause-ok
returns-clause-ok c =
    wanted_is c.args.view.now c.args.ask c.schema.result.now c.schema.ensures c.leaves.result.now c.leaves.ensures.value c.in_ok-order.ensures.count.1 c.in_ok-order.ensures.sorts
    (record { order = c.in_ok-order.order; mark = c.in_ok-mark.mark; count = c.in_ok-order.count }) c.in_ok-order.ensures.count.0 c.in_ok-order.ensures.order c.in_ok-mark.ensures.has
    c.in_ok-mark.ensures.ok

pub returns-clause-due : goal.returns-clause-due
returns-clause-due c =
    let w : Wanted = record { order = c.in_ok-order.order; mark = c.in_ok-mark.mark; count = c.in_ok-order.count } in
    none_due c.args.view.now c.args.ask _ w
    (wanted_is c.args.view.now c.args.ask c.schema.result.now c.schema.ensures c.leaves.result.now c.leaves.ensures.value c.in_ok-order.ensures.count.1 c.in_ok-order.ensures.sorts
    w c.in_ok-order.ensures.count.0 c.in_ok-order.ensures.order c.in_ok-mark.ensures.has c.in_ok-mark.ensures.ok)
