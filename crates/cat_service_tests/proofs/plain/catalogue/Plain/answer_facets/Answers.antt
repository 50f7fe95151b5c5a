use Rattle.std.proofs.Common.{◌≡◌, List, ap, sym, ◌∙◌, subst, true}
use Rattle.std.specs.Prelude.{Ok, Err}
use Rattle.cat_model.specs.Answer.{Read, answer, is_facet_kind}
use Rattle.cat_model.specs.Facets.{facets_in}
use Rattle.cat_model.specs.Item.{Record, kind_of}
use Rattle.cat_model.specs.Query.{Query}
use Rattle.cat_model.specs.State.{table_under}
use Rattle.cat_search.specs.cat_query.View.{query_of}
use Rattle.cat_service_tests.specs.plain.Counts.{facets_told}
use Rattle.cat_service_tests.specs.plain.Exchange.{IsReadQuery}
use Rattle.cat_service_tests.proofs.plain.catalogue.FacetReplies.{facets_fault, facets_refused, facets_told_so, facets_unheld, facets_want}
use Rattle.cat_service_tests.proofs.plain.catalogue.Finds.{some_query}
use Rattle.cat_service_tests.proofs.plain.catalogue.Openings.{fault_is}
use Rattle.cat_service_tests.proofs.plain.catalogue.Plain.answer_facets.Goals as goal

pub returns-in_err-query : goal.returns-in_err-query
returns-in_err-query c =
    let fault = c.in_err-query.ensures.err in
    rw (fault_is c.from_residual.result c.in_err-query.field-0.0 c.from_residual.ensures, fault.1)
    (facets_fault c.args.self.now c.args.session c.args.token c.args.dim.now c.args.count c.args.text.now fault.0 fault.2)

pub returns-then-not-is_holding : goal.returns-then-not-is_holding
returns-then-not-is_holding c =
    let some = some_query c.args.self.now.schema c.args.text.now c.in_ok-query.query c.in_ok-query.ensures.ok in
    facets_unheld c.args.self.now c.args.session c.args.token c.args.dim.now c.args.count c.args.text.now some.0 some.1 (sym c.if-not-is_holding.ensures)

pub returns-in_err-count : goal.returns-in_err-count
returns-in_err-count c =
    let some = some_query c.args.self.now.schema c.args.text.now c.in_ok-query.query c.in_ok-query.ensures.ok in
    let e = c.in_err-count.field-0.0 in
    let refused = subst (λ w. (rs : List Record) (q : Query) → answer w.schema rs (Read.facets c.args.dim.now c.args.count (Ok q)) ≡ Err e) c.self.view_is c.in_err-count.ensures.err in
    rw (fault_is c.from_residual-in_err-count.result e c.from_residual-in_err-count.ensures)
    (facets_refused c.args.self.now c.args.session c.args.token c.args.dim.now c.args.count c.args.text.now some.0 some.1 (sym c.is_holding.ensures ∙ c.if-not-is_holding.false) e
    (refused (table_under c.args.self.now.state.views c.args.token) some.0))

pub returns-in_default : goal.returns-in_default
returns-in_default c =
    let some = some_query c.args.self.now.schema c.args.text.now c.in_ok-query.query c.in_ok-query.ensures.ok in
    let facet = subst (λ w. is_facet_kind (kind_of w.schema c.args.dim.now) ≡ true) c.self.view_is c.in_ok-count.ensures.facet in
    facets_want c.args.self.now c.args.session c.args.token c.args.dim.now c.args.count c.args.text.now some.0 some.1 (sym c.is_holding.ensures ∙ c.if-not-is_holding.false) facet c.in_ok-count.ensures.few

pub returns-in-Ok : goal.returns-in-Ok
returns-in-Ok c =
    let q = query_of c.in-Some.query in
    let spells = subst (IsReadQuery c.args.self.now.schema c.args.text.now) c.in-Some.is c.in_ok-query.ensures.ok in
    let facet = subst (λ w. is_facet_kind (kind_of w.schema c.args.dim.now) ≡ true) c.self.view_is c.in_ok-count.ensures.facet in
    let told : facets_told c.in-Ok.counts ≡ facets_in (table_under c.args.self.now.state.views c.args.token) q c.args.dim.now c.args.count =
    c.in-Ok.ensures.ok ∙ ap (λ rs. facets_in rs q c.args.dim.now c.in_ok-count.count) c.table_at.ensures.value
    ∙ ap (λ n. facets_in (table_under c.args.self.now.state.views c.args.token) q c.args.dim.now n) c.in_ok-count.ensures.count in
    facets_told_so c.args.self.now c.args.session c.args.token c.args.dim.now c.args.count c.args.text.now q spells (sym c.is_holding.ensures ∙ c.if-not-is_holding.false) facet c.in_ok-count.ensures.few
    (facets_told c.in-Ok.counts) told

pub returns : goal.returns
returns c =
    let some = some_query c.args.self.now.schema c.args.text.now c.in_ok-query.query c.in_ok-query.ensures.ok in
    let facet = subst (λ w. is_facet_kind (kind_of w.schema c.args.dim.now) ≡ true) c.self.view_is c.in_ok-count.ensures.facet in
    facets_want c.args.self.now c.args.session c.args.token c.args.dim.now c.args.count c.args.text.now some.0 some.1 (sym c.is_holding.ensures ∙ c.if-not-is_holding.false) facet c.in_ok-count.ensures.few
