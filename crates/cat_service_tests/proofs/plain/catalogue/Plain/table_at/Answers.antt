use Rattle.std.proofs.Common.{subst, sym}
use Rattle.cat_service_tests.specs.plain.Tables.{AreItems}
use Rattle.cat_service_tests.proofs.plain.catalogue.Rising.{items-of_found}
use Rattle.cat_service_tests.proofs.plain.catalogue.Plain.table_at.Goals as goal

pub returns-in-Some-clause-items : goal.returns-in-Some-clause-items
returns-in-Some-clause-items c =
    let found = rw c.deref.ensures.value at c.in-Some.ensures in
    let shown = items-of_found _ c.self.inside.views.items c.args.token c.in-Some.view.now c.self.invariant.3 found in
    subst (AreItems c.args.self.now.schema) (sym c.table.ensures.value) (subst (λ w. AreItems w.schema c.in-Some.view.now.table) c.self.view_is shown)
