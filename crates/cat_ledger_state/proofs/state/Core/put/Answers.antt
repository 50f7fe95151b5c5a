use Rattle.std.proofs.Common.{◌≤◌, ◌<◌, ◌∙◌, length, refl, sym, ap, subst}
use Rattle.cat_model.specs.Item.{IsItem}
use Rattle.cat_model.specs.Limits.{last_number, segment_limit}
use Rattle.cat_model.specs.Write.{Write}
use Rattle.cat_ledger_laws.specs.shape.Shapes.{IsShape}
use Rattle.cat_ledger_laws.proofs.shape.Writes.{ids_stand_once, writes_are_newest, writes_keep}
use Rattle.cat_ledger_state.specs.Cores.{shape_of_core}
use Rattle.cat_ledger_state.proofs.Results.{either_err}
use Rattle.cat_ledger_state.proofs.Writing.{leaves_few, put_is, taken_back}
use Rattle.cat_ledger_state.proofs.state.Core.put.Goals as goal

pub put_over-requires-clause-newest : goal.put_over-requires-clause-newest
put_over-requires-clause-newest c = writes_are_newest (shape_of_core c.self.inside) c.self.invariant.shape

pub put_over-requires-clause-alone : goal.put_over-requires-clause-alone
put_over-requires-clause-alone c = ids_stand_once (shape_of_core c.self.inside) c.args.item.id c.self.invariant.shape

pub invariant_of-self : goal.invariant_of-self
invariant_of-self c =
    let buffered = ap (λ b. b.records) c.in_err-put_over.ensures.waits in
    record {
      shape = subst IsShape (sym (taken_back (shape_of_core c.self.inside) c.put_over.new.current c.put_over.new.buffer.records c.in_err-put_over.ensures.stands buffered))
          c.self.invariant.shape;
      waits = ap (λ b. b.schema) c.in_err-put_over.ensures.waits ∙ c.self.invariant.waits;
      few = subst (λ ls. length ls ≤ segment_limit) (sym c.in_err-put_over.ensures.stands) c.self.invariant.few;
      merges = c.self.invariant.merges;
      known = c.self.invariant.known;
    }

pub invariant_of-self-2 : goal.invariant_of-self-2
invariant_of-self-2 c =
    let left = subst (λ s. s.count < last_number) (sym c.self.view_is) c.requires.left in
    let item = subst (λ s. IsItem s.schema c.args.item) (sym c.self.view_is) c.requires.item in
    let is = put_is (shape_of_core c.self.inside) c.args.item c.args.item.id c.put_over.new.current c.put_over.new.buffer.records refl
    (ap (λ b. b.records) c.in_ok-put_over.ensures.put) c.in_ok-put_over.ensures.killed in
    record {
      shape = subst IsShape (sym is) (writes_keep (shape_of_core c.self.inside) (Write.put c.args.item) left item c.self.invariant.shape);
      waits = ap (λ b. b.schema) c.in_ok-put_over.ensures.put ∙ c.self.invariant.waits;
      few = subst (λ ls. length ls ≤ segment_limit) (sym c.in_ok-put_over.ensures.killed)
          (leaves_few (Write.delete c.args.item.id) c.self.inside.current segment_limit c.self.invariant.few);
      merges = c.self.invariant.merges;
      known = c.self.invariant.known;
    }

pub returns-in_err-put_over-clause-err : goal.returns-in_err-put_over-clause-err
returns-in_err-put_over-clause-err c =
    either_err _ (taken_back (shape_of_core c.self.inside) c.put_over.new.current c.put_over.new.buffer.records c.in_err-put_over.ensures.stands
    (ap (λ b. b.records) c.in_err-put_over.ensures.waits) ∙ c.self.view_is)
