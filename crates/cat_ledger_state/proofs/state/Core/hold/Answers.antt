use Rattle.cat_ledger_state.specs.Cores.{shape_of_core}
use Rattle.cat_ledger_state.proofs.Viewing.{holds_kept, acquire_same}
use Rattle.cat_ledger_state.proofs.state.Core.hold.Goals as goal

pub invariant_of-self : goal.invariant_of-self
invariant_of-self c =
    let same = acquire_same c.acquire-held.result c.acquire-held.new.self c.self.inside.records c.args.session c.args.token c.acquire-held.ensures.ok c.acquire-held.ensures.err in
    record {
      shape = holds_kept (shape_of_core c.self.inside) c.acquire-held.new.self c.self.invariant.shape same c.recorded-views.ensures.valid;
      waits = c.self.invariant.waits;
      few = c.self.invariant.few;
      merges = c.self.invariant.merges;
      known = c.self.invariant.known;
    }
