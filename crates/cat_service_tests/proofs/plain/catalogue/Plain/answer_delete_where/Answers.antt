use Rattle.std.proofs.Common.{subst}
use Rattle.cat_search.specs.cat_query.View.{query_of}
use Rattle.cat_service_tests.specs.plain.Exchange.{IsReadQuery}
use Rattle.cat_service_tests.proofs.plain.catalogue.Deletes.{delete_fault, delete_spent, delete_told, delete_want}
use Rattle.cat_service_tests.proofs.plain.catalogue.Openings.{fault_is}
use Rattle.cat_service_tests.proofs.plain.catalogue.Plain.answer_delete_where.Goals as goal

pub returns-in_err-query-clause-does : goal.returns-in_err-query-clause-does
returns-in_err-query-clause-does c = λ s.
    let fault = c.in_err-query.ensures.err in
    rw (fault_is c.from_residual.result c.in_err-query.field-0.0 c.from_residual.ensures, fault.1) (delete_fault c.args.self.now s c.args.text.now fault.0 fault.2)

pub returns-in_err-delete_where-in-Some-clause-does : goal.returns-in_err-delete_where-in-Some-clause-does
returns-in_err-delete_where-in-Some-clause-does c = λ s.
    let spells = subst (IsReadQuery c.args.self.now.schema c.args.text.now) c.in-Some.is c.in_ok-query.ensures.ok in
    let told = c.in_err-delete_where-in-Some.ensures in
    rw (
      fault_is c.from_residual-in_err-delete_where-in-Some.result c.in_err-delete_where-in-Some.field-0.0 c.from_residual-in_err-delete_where-in-Some.ensures,
      told.err.0,
      told.unchanged,
    ) (delete_spent c.args.self.now s c.args.text.now (query_of c.in-Some.query) spells told.err.1)

pub returns-in_ok-delete_where-in-Some-clause-does : goal.returns-in_ok-delete_where-in-Some-clause-does
returns-in_ok-delete_where-in-Some-clause-does c = λ s.
    let spells = subst (IsReadQuery c.args.self.now.schema c.args.text.now) c.in-Some.is c.in_ok-query.ensures.ok in
    let told = c.in_ok-delete_where-in-Some.ensures.ok in
    rw (told.1, told.2) (delete_told c.args.self.now s c.args.text.now (query_of c.in-Some.query) spells told.0)

pub returns-in-None-clause-does : goal.returns-in-None-clause-does
returns-in-None-clause-does c = λ s.
    let some = subst (IsReadQuery c.args.self.now.schema c.args.text.now) c.in-None.is c.in_ok-query.ensures.ok in
    rw c.refusal_of_write.ensures (delete_want c.args.self.now s c.args.text.now some.0 some.1)
