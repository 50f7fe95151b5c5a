use Rattle.std.proofs.Common.{◌≡◌, ◌+◌, ◌∙◌, sym, ap}
use Rattle.cat_service_tests.proofs.plain.catalogue.Rising.{items-filter, table-delete}
use Rattle.cat_service_tests.proofs.plain.catalogue.Plain.delete.Goals as goal

pub invariant_of-self : goal.invariant_of-self
invariant_of-self c =
    let next : c.in_ok-number.number ≡ c.self.inside.count + 1 = c.in_ok-number.ensures.ok.0 ∙ ap (λ w. w.state.count + 1) (sym c.self.view_is) in (
      c.self.invariant.0,
      rw c.remove_id.ensures.items (table-delete _ _ _ _ next c.self.invariant.1),
      rw c.remove_id.ensures.items (items-filter _ _ _ c.self.invariant.2),
      c.self.invariant.3,
    )
