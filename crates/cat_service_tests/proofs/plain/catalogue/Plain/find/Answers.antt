use Rattle.std.proofs.Common.{◌∙◌, subst, sym}
use Rattle.std.specs.Prelude.{Ok, Err}
use Rattle.cat_model.specs.Answer.{answer}
use Rattle.cat_search.specs.cat_query.View.{query_of}
use Rattle.cat_service_tests.specs.plain.Exchange.{IsReadQuery, TellsFound, find_of}
use Rattle.cat_service_tests.proofs.plain.catalogue.Finds.{does_fault, does_unheld, does_tell, some_query}
use Rattle.cat_service_tests.proofs.plain.catalogue.Openings.{fault_is}
use Rattle.cat_service_tests.proofs.plain.catalogue.Plain.find.Goals as goal

pub returns-in_err-query : goal.returns-in_err-query
returns-in_err-query c =
    let fault = c.in_err-query.ensures.err in
    rw (fault_is c.from_residual.result c.in_err-query.field-0.0 c.from_residual.ensures, fault.1) (does_fault c.args.self.now c.args.session c.args.token c.args.ask c.args.text.now fault.0 fault.2)

pub returns-then-not-is_holding : goal.returns-then-not-is_holding
returns-then-not-is_holding c =
    let some = some_query c.args.self.now.schema c.args.text.now c.in_ok-query.query c.in_ok-query.ensures.ok in
    does_unheld c.args.self.now c.args.session c.args.token c.args.ask c.args.text.now some.0 some.1 (sym c.if-not-is_holding.ensures)

pub returns-in-Some : goal.returns-in-Some
returns-in-Some c =
    let q = query_of c.in-Some.query in
    let told = c.find_in.result in
    let spells = subst (IsReadQuery c.args.self.now.schema c.args.text.now) c.in-Some.is c.in_ok-query.ensures.ok in
    let over_records = subst (λ w. TellsFound (answer w.schema c.table_at-records.result.now (find_of c.args.ask (Ok q))) told) c.self.view_is c.find_in.ensures in
    let over_table = subst (λ rs. TellsFound (answer c.args.self.now.schema rs (find_of c.args.ask (Ok q))) told) c.table_at-records.ensures.value over_records in
    does_tell c.args.self.now c.args.session c.args.token c.args.ask c.args.text.now q spells (sym c.is_holding.ensures ∙ c.if-not-is_holding.false) told over_table

pub returns-in-None : goal.returns-in-None
returns-in-None c =
    let some = subst (IsReadQuery c.args.self.now.schema c.args.text.now) c.in-None.is c.in_ok-query.ensures.ok in
    let q = some.0 in
    let refusal = c.refusal_in.result in
    let over_records = subst (λ w. TellsFound (answer w.schema c.table_at-records.result.now (find_of c.args.ask (Ok q))) (Err refusal)) c.self.view_is (c.refusal_in.ensures q) in
    let over_table = subst (λ rs. TellsFound (answer c.args.self.now.schema rs (find_of c.args.ask (Ok q))) (Err refusal)) c.table_at-records.ensures.value over_records in
    does_tell c.args.self.now c.args.session c.args.token c.args.ask c.args.text.now q some.1 (sym c.is_holding.ensures ∙ c.if-not-is_holding.false) (Err refusal) over_table
