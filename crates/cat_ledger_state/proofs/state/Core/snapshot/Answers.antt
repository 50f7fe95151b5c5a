use Rattle.std.proofs.Common.{◌∙◌, ap, subst}
use Rattle.cat_ledger_laws.specs.shape.Steps.{IsSnapped, newest_generation}
use Rattle.cat_ledger_state.specs.Cores.{shape_of_core}
use Rattle.cat_ledger_state.proofs.Results.{if_ok, on_err}
use Rattle.cat_ledger_state.proofs.Releasing.{snapped_is, snap_keep}
use Rattle.cat_ledger_state.proofs.state.Core.snapshot.Goals as goal

pub invariant_of-self : goal.invariant_of-self
invariant_of-self c =
    let newest = c.newest_of-newest.ensures ∙ ap newest_generation c.deref.ensures.value in
    record {
      shape = snap_keep (shape_of_core c.self.inside) c.snapshot.result c.newest_of-newest.result c.snapshot.new.self newest c.snapshot.ensures.ok c.snapshot.ensures.err c.self.invariant.shape;
      waits = c.self.invariant.waits;
      few = c.self.invariant.few;
      merges = c.self.invariant.merges;
      known = c.self.invariant.known;
    }

pub returns-clause-ok : goal.returns-clause-ok
returns-clause-ok c =
    let newest = c.newest_of-newest.ensures ∙ ap newest_generation c.deref.ensures.value in
    let new = record (shape_of_core c.self.inside) { taken = c.snapshot.new.self } in
    if_ok _ _ c.snapshot.result (λ n one. subst (λ s. IsSnapped n s new) c.self.view_is (snapped_is (shape_of_core c.self.inside) n c.newest_of-newest.result c.snapshot.new.self newest one))
    c.snapshot.ensures.ok

pub returns-clause-err : goal.returns-clause-err
returns-clause-err c = on_err _ _ c.snapshot.result (λ same. ap (λ t. record (shape_of_core c.self.inside) { taken = t }) same ∙ c.self.view_is) c.snapshot.ensures.err
