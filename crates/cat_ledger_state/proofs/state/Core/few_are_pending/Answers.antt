use Rattle.std.proofs.Common.{◌+◌, ◌*◌, ◌≤◌, subst}
use Rattle.std.specs.Prelude.{◌==◌, count_by}
use Rattle.cat_ledger_laws.specs.model.Users.{Used}
use Rattle.cat_ledger_state.specs.Cores.{shape_of_core}
use Rattle.cat_ledger_state.proofs.Few.{few_pending}
use Rattle.cat_ledger_state.proofs.Known.{numbers_some}
use Rattle.cat_ledger_state.proofs.state.Core.few_are_pending.Goals as goal

pub returns : goal.returns
returns c =
    let some = numbers_some (shape_of_core c.self.inside) c.self.invariant.shape in
    subst (λ s. count_by (λ (u : Used). u.users == 0) s.users + 2 ≤ s.next_segment * (s.next_generation + 1)) c.self.view_is
    (few_pending c.self.inside.refs c.self.inside.next_segment c.self.inside.next_generation c.stand_once.ensures c.self.invariant.known some.0 some.1)
