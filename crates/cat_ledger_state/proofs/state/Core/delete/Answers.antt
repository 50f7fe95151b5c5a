use Rattle.std.proofs.Common.{◌∙◌, ◌≤◌, ◌<◌, length, refl, sym, ap, subst}
use Rattle.cat_model.specs.Limits.{last_number, segment_limit}
use Rattle.cat_model.specs.Write.{Write}
use Rattle.cat_ledger_laws.specs.shape.Shapes.{IsShape}
use Rattle.cat_ledger_laws.proofs.shape.Writes.{writes_keep}
use Rattle.cat_ledger_state.specs.Cores.{shape_of_core}
use Rattle.cat_ledger_state.proofs.Writing.{delete_is, leaves_few}
use Rattle.cat_ledger_state.proofs.state.Core.delete.Goals as goal

pub invariant_of-self-2 : goal.invariant_of-self-2
invariant_of-self-2 c =
    let left = subst (λ s. s.count < last_number) (sym c.self.view_is) c.requires.left in
    let is = delete_is (shape_of_core c.self.inside) (Write.delete c.args.id.now) c.delete.new.self c.delete-waited.new.self.records c.in_ok-delete.ensures.ok (ap (λ b. b.records) c.delete-waited.ensures.removed) refl in
    record {
      shape = subst IsShape (sym is) (writes_keep (shape_of_core c.self.inside) (Write.delete c.args.id.now) left tt c.self.invariant.shape);
      waits = ap (λ b. b.schema) c.delete-waited.ensures.removed ∙ c.self.invariant.waits;
      few = subst (λ ls. length ls ≤ segment_limit) (sym c.in_ok-delete.ensures.ok) (leaves_few (Write.delete c.args.id.now) c.self.inside.current segment_limit c.self.invariant.few);
      merges = c.self.invariant.merges;
      known = c.self.invariant.known;
    }
