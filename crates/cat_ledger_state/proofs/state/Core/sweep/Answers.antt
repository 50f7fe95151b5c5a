use Rattle.std.proofs.Common.{[], subst}
use Rattle.cat_ledger_laws.specs.shape.Steps.{Leaves}
use Rattle.cat_ledger_laws.proofs.shape.Writes.{refusals_keep}
use Rattle.cat_ledger_state.specs.Cores.{shape_of_core}
use Rattle.cat_ledger_state.proofs.Releasing.{sweep_leaves}
use Rattle.cat_ledger_state.proofs.state.Core.sweep.Goals as goal

pub invariant_of-self : goal.invariant_of-self
invariant_of-self g c = record {
  shape = refusals_keep [] (shape_of_core c.self.inside) _ (sweep_leaves (shape_of_core c.self.inside) c.sweep.new.self c.self.invariant.shape c.sweep.ensures.users) c.self.invariant.shape;
  waits = c.self.invariant.waits;
  few = c.self.invariant.few;
  merges = c.self.invariant.merges;
  known = λ q there. c.self.invariant.known q (c.sweep.ensures.known q there);
}

pub returns-clause-leaves : goal.returns-clause-leaves
returns-clause-leaves g c =
    let new = record (shape_of_core c.self.inside) { users = c.sweep.new.self } in
    subst (λ s. Leaves [] s new) c.self.view_is (sweep_leaves (shape_of_core c.self.inside) c.sweep.new.self c.self.invariant.shape c.sweep.ensures.users)
