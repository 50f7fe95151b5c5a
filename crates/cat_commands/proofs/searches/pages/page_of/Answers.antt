use Rattle.std.proofs.Common.{◌∙◌, ap, refl, subst}
use Rattle.std.specs.Prelude.{Err, Ok}
use Rattle.std.specs.Result.{result_from_control_flow}
use Rattle.cat_model.specs.Answer.{Found}
use Rattle.cat_cached_sets.specs.cat_query.View.{query_of}
use Rattle.cat_protocol.specs.cat_search.Asks.{read_of}
use Rattle.cat_protocol.specs.cat_search.Views.{IsAnswerTo, IsWantedOf, Prepared}
use Rattle.cat_ledger.proofs.Results.{passed_on}
use Rattle.cat_commands.proofs.searches.Cached.{at_err, none_ok, noted_after, prepared_is}
use Rattle.cat_commands.proofs.searches.Told.{due_done, due_passed}
use Rattle.cat_commands.proofs.searches.pages.page_of.Goals as goal

pub returns-clause-ok : goal.returns-clause-ok
returns-clause-ok c =
    let is = prepared_is c.prepare-prepared.result c.in_ok-prepared.prepared (c.branch-prepared.ensures ∙ ap result_from_control_flow c.in_ok-prepared.is) c.args.view.now c.args.query c.prepare-prepared.ensures.ok in
    let w = c.in_ok-wanted.wanted in
    subst (λ (p : Prepared). IsWantedOf p.view c.args.ask w → IsAnswerTo p c.args.ask (Ok (Found.page c.in_ok-page.page))) is (c.in_ok-page.ensures c.args.ask) c.in_ok-wanted.ensures.ok

pub returns-clause-noted : goal.returns-clause-noted
returns-clause-noted c =
    let is = prepared_is c.prepare-prepared.result c.in_ok-prepared.prepared (c.branch-prepared.ensures ∙ ap result_from_control_flow c.in_ok-prepared.is) c.args.view.now c.args.query c.prepare-prepared.ensures.ok in
    noted_after (query_of c.args.query) (query_of c.into_query.result) c.args.view.now c.args.filters.now c.prepare-prepared.new.filters c.note.new.self c.prepare-prepared.ensures.used
    (c.into_query.ensures ∙ ap (λ (p : Prepared). query_of p.query) is) c.note.ensures.noted

pub returns-clause-known : goal.returns-clause-known
returns-clause-known c = λ s knows. c.note.ensures.known s (c.prepare-prepared.ensures.known s knows)

pub returns-clause-below : goal.returns-clause-below
returns-clause-below c = λ s knows. c.note.ensures.below s (c.prepare-prepared.ensures.below s knows)

pub returns-in_err-wanted-clause-err : goal.returns-in_err-wanted-clause-err
returns-in_err-wanted-clause-err c = rw (passed_on c.from_residual.result c.in_err-wanted.field-0.0 c.from_residual.ensures) (λ other. c.in_err-wanted.ensures.err (query_of c.args.query))

pub returns-in_err-wanted-clause-due : goal.returns-in_err-wanted-clause-due
returns-in_err-wanted-clause-due c =
    let e = c.in_err-wanted.field-0.0 in
    λ q. due_passed c.args.view.now (read_of c.args.ask q) e (Err e) c.from_residual.result refl (passed_on c.from_residual.result c.in_err-wanted.field-0.0 c.from_residual.ensures) (c.in_err-wanted.ensures.due q)

pub returns-in_err-prepared-clause-due : goal.returns-in_err-prepared-clause-due
returns-in_err-prepared-clause-due c = λ q. due_done c.args.view.now (read_of c.args.ask q) c.in_ok-wanted.wanted c.from_residual-in_err-prepared.result (c.in_ok-wanted.ensures.due q)

pub returns-in_err-page-clause-due : goal.returns-in_err-page-clause-due
returns-in_err-page-clause-due c = λ q. due_done c.args.view.now (read_of c.args.ask q) c.in_ok-wanted.wanted c.from_residual-in_err-page.result (c.in_ok-wanted.ensures.due q)

pub returns-clause-due : goal.returns-clause-due
returns-clause-due c = λ q. due_done c.args.view.now (read_of c.args.ask q) c.in_ok-wanted.wanted (Ok c.in_ok-page.page) (c.in_ok-wanted.ensures.due q)

pub returns-in_err-wanted-clause-used : goal.returns-in_err-wanted-clause-used
returns-in_err-wanted-clause-used c = at_err _ c.from_residual.result c.prepare-prepared.ensures.used

pub returns-in_err-wanted-clause-known : goal.returns-in_err-wanted-clause-known
returns-in_err-wanted-clause-known c = c.prepare-prepared.ensures.known

pub returns-in_err-wanted-clause-below : goal.returns-in_err-wanted-clause-below
returns-in_err-wanted-clause-below c = c.prepare-prepared.ensures.below

pub returns-in_err-wanted-clause-noted : goal.returns-in_err-wanted-clause-noted
returns-in_err-wanted-clause-noted c = none_ok _ c.from_residual.result c.from_residual.ensures.0

pub returns-in_err-prepared-clause-used : goal.returns-in_err-prepared-clause-used
returns-in_err-prepared-clause-used c = at_err _ c.from_residual-in_err-prepared.result c.prepare-prepared.ensures.used

pub returns-in_err-prepared-clause-known : goal.returns-in_err-prepared-clause-known
returns-in_err-prepared-clause-known c = c.prepare-prepared.ensures.known

pub returns-in_err-prepared-clause-below : goal.returns-in_err-prepared-clause-below
returns-in_err-prepared-clause-below c = c.prepare-prepared.ensures.below

pub returns-in_err-prepared-clause-noted : goal.returns-in_err-prepared-clause-noted
returns-in_err-prepared-clause-noted c = none_ok _ c.from_residual-in_err-prepared.result c.from_residual-in_err-prepared.ensures.0

pub returns-in_err-page-clause-used : goal.returns-in_err-page-clause-used
returns-in_err-page-clause-used c = at_err _ c.from_residual-in_err-page.result c.prepare-prepared.ensures.used

pub returns-in_err-page-clause-known : goal.returns-in_err-page-clause-known
returns-in_err-page-clause-known c = c.prepare-prepared.ensures.known

pub returns-in_err-page-clause-below : goal.returns-in_err-page-clause-below
returns-in_err-page-clause-below c = c.prepare-prepared.ensures.below

pub returns-in_err-page-clause-noted : goal.returns-in_err-page-clause-noted
returns-in_err-page-clause-noted c = none_ok _ c.from_residual-in_err-page.result c.from_residual-in_err-page.ensures.0
