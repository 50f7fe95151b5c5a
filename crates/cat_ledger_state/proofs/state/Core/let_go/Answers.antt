use Rattle.std.proofs.Common.{ap}
use Rattle.cat_ledger_state.specs.Cores.{shape_of_core}
use Rattle.cat_ledger_state.proofs.Viewing.{holds_kept}
use Rattle.cat_ledger_state.proofs.state.Core.let_go.Goals as goal

pub invariant_of-self : goal.invariant_of-self
invariant_of-self c = record {
  shape = holds_kept (shape_of_core c.self.inside) c.release-had.new.self c.self.invariant.shape (ap (λ r. r.views) c.release-had.ensures.released) c.recorded-views.ensures.valid;
  waits = c.self.invariant.waits;
  few = c.self.invariant.few;
  merges = c.self.invariant.merges;
  known = c.self.invariant.known;
}
