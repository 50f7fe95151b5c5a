use Rattle.std.proofs.Common.{◌↔◌, IsTrue, not, ap, subst}
use Rattle.std.specs.Prelude.{option_map}
use Rattle.cat_ledger_state.specs.Cores.{shape_of_core, HasRowsLeft}
use Rattle.cat_ledger_state.proofs.Merging.{left_is}
use Rattle.cat_ledger_state.proofs.state.Core.has_rows_left.Goals as goal

pub returns : goal.returns
returns c =
    let left = left_is (shape_of_core c.self.inside) c.in-Some.merge.shape c.is_passed.result c.self.invariant.shape
    (ap (option_map (λ m. m.shape)) c.in-Some.is) c.is_passed.ensures in
    subst (λ s. IsTrue (not c.is_passed.result) ↔ HasRowsLeft s.merging) c.self.view_is left
