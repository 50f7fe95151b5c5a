use Rattle.std.proofs.Common.{subst}
use Rattle.cat_query.specs.View.{query_of}
use Rattle.cat_search.specs.Views.{IsWantedOf, Prepared}
use Rattle.cat_search.proofs.ViewPages.{IsRefused, is_due, none_due, passed_on}
use Rattle.cat_search.proofs.prepared.Prepared.page.Goals as goal

pub returns-in_err-wanted-clause-err : goal.returns-in_err-wanted-clause-err
returns-in_err-wanted-clause-err c =
    let p = c.args.self.now in
    let e = c.in_err-wanted.field-0.0 in
    rw (passed_on c.from_residual.result e c.from_residual.ensures)
    (λ other. subst (λ (p : Prepared). IsRefused p.view c.args.ask e) c.self.view_is c.in_err-wanted.ensures.err (query_of p.query))

pub returns-in_err-wanted-clause-due : goal.returns-in_err-wanted-clause-due
returns-in_err-wanted-clause-due c =
    let p = c.args.self.now in
    let e = c.in_err-wanted.field-0.0 in
    is_due p.view c.args.ask c.from_residual.result e (passed_on c.from_residual.result e c.from_residual.ensures)
    (subst (λ (p : Prepared). IsRefused p.view c.args.ask e) c.self.view_is c.in_err-wanted.ensures.err) (query_of p.query)

pub returns-in_err-page_for-clause-due : goal.returns-in_err-page_for-clause-due
returns-in_err-page_for-clause-due c =
    let p = c.args.self.now in
    none_due p.view c.args.ask _ c.in_ok-wanted.wanted (subst (λ (p : Prepared). IsWantedOf p.view c.args.ask c.in_ok-wanted.wanted) c.self.view_is c.in_ok-wanted.ensures.ok) (query_of p.query)

pub returns-clause-ok : goal.returns-clause-ok
returns-clause-ok c =
    c.in_ok-page_for.ensures c.args.ask (subst (λ (p : Prepared). IsWantedOf p.view c.args.ask c.in_ok-wanted.wanted) c.self.view_is c.in_ok-wanted.ensures.ok)

pub returns-clause-due : goal.returns-clause-due
returns-clause-due c =
    let p = c.args.self.now in
    none_due p.view c.args.ask _ c.in_ok-wanted.wanted (subst (λ (p : Prepared). IsWantedOf p.view c.args.ask c.in_ok-wanted.wanted) c.self.view_is c.in_ok-wanted.ensures.ok) (query_of p.query)
