use Rattle.cat_ledger_state.specs.Cores.{shape_of_core}
use Rattle.cat_ledger_state.proofs.Viewing.{now_is_view}
use Rattle.cat_ledger_state.proofs.state.Core.view.Goals as goal

pub of-requires : goal.of-requires
of-requires c =
    now_is_view (shape_of_core c.self.inside) c.in_ok-copy.field-0 c.in_ok-leaves.leaves.items c.self.invariant.shape c.in_ok-copy.ensures c.in_ok-leaves.ensures.ok
