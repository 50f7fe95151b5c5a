use Rattle.std.proofs.Common.{◌≡◌, arith, ap}
use Rattle.cat_ledger.proofs.Lasting.{memory_keeps, same_needs}
use Rattle.cat_ledger.proofs.Made.{written}
use Rattle.cat_ledger_laws.specs.model.Calls.{wrote}
use Rattle.cat_model.specs.Write.{Write}
use Rattle.cat_ledger.proofs.Histories.{goes_so, memory_goes, nothing_goes_on}
use Rattle.cat_ledger_laws.specs.shape.Shapes.{Shape}
use Rattle.cat_ledger_laws.specs.shape.Steps.{newest_generation}
use Rattle.cat_ledger.proofs.ledger.Ledger.delete.Goals as goal

pub invariant_of-self-2 : goal.invariant_of-self-2
invariant_of-self-2 g c =
    let w = Write.delete c.args.id.now in
    memory_keeps g.D.Holder.bytes g.D.Holder.may_leave g.met.D.Holder.may_stay (λ l l'. l' ≡ wrote l w) c.self.inside.device c.self.inside.core c.delete.new.self
    (same_needs _ _ c.in_ok-delete.ensures.ok)
    (written (g.D.Holder.bytes c.self.inside.device) c.self.inside.core c.delete.new.self w c.in_ok-delete.ensures.ok
    (omega (arith, c.count.ensures.count, c.if-count-ge-LAST_NUMBER.false)) tt)
    c.self.invariant

pub returns-clause-ok : goal.returns-clause-ok
returns-clause-ok g c =
    rw (← c.self.view_is) (written (g.D.Holder.bytes c.self.inside.device) c.self.inside.core c.delete.new.self (Write.delete c.args.id.now)
    c.in_ok-delete.ensures.ok (omega (arith, c.count.ensures.count, c.if-count-ge-LAST_NUMBER.false)) tt)

pub returns-then-count-ge-LAST_NUMBER-clause-goes : goal.returns-then-count-ge-LAST_NUMBER-clause-goes
returns-then-count-ge-LAST_NUMBER-clause-goes g c =
    nothing_goes_on g.D.Holder.bytes g.D.Holder.may_leave c.args.self.now

pub returns-clause-goes : goal.returns-clause-goes
returns-clause-goes g c =
    rw (← c.self.view_is) (goes_so g.D.Holder.bytes g.D.Holder.may_leave (memory_goes g.D.Holder.bytes g.D.Holder.may_leave c.self.inside.device c.self.inside.core c.delete.new.self c.self.inside.policy c.self.inside.policy
    (ap (λ (x : Shape). newest_generation x.commits) c.in_ok-delete.ensures.ok) (ap (λ (x : Shape). x.next_generation) c.in_ok-delete.ensures.ok)
    (ap (λ (x : Shape). x.next_segment) c.in_ok-delete.ensures.ok) (ap (λ (x : Shape). x.merging) c.in_ok-delete.ensures.ok)))
