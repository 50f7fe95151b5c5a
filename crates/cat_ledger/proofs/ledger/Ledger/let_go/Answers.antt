use Rattle.std.proofs.Common.{sym, ap}
use Rattle.cat_ledger.proofs.Lasting.{kept_still, let_go_carried, same_needs}
use Rattle.cat_ledger.proofs.Histories.{goes_so, memory_goes}
use Rattle.cat_ledger_laws.specs.shape.Shapes.{Shape}
use Rattle.cat_ledger_laws.specs.shape.Steps.{newest_generation}
use Rattle.cat_ledger.proofs.ledger.Ledger.let_go.Goals as goal

pub invariant_of-self : goal.invariant_of-self
invariant_of-self g c =
    let s = c.self.inside.core in
    let s' = c.let_go-had.new.self in
    kept_still g.D.Holder.bytes g.D.Holder.may_leave g.met.D.Holder.may_stay c.self.inside.device c.self.inside.device s s'
    (let_go_carried c.self.inside.policy (g.D.Holder.bytes c.self.inside.device) s s' c.args.session c.args.token
    (sym c.if-not-is_held_by.ensures) c.let_go-had.ensures.released c.self.invariant.carried)
    (same_needs _ _ c.let_go-had.ensures.released) (λ q needed e might. might) c.self.invariant

pub returns-clause-goes : goal.returns-clause-goes
returns-clause-goes g c =
    rw (← c.self.view_is) (goes_so g.D.Holder.bytes g.D.Holder.may_leave (memory_goes g.D.Holder.bytes g.D.Holder.may_leave c.self.inside.device c.self.inside.core c.let_go-had.new.self c.self.inside.policy c.self.inside.policy
    (ap (λ (x : Shape). newest_generation x.commits) c.let_go-had.ensures.released) (ap (λ (x : Shape). x.next_generation) c.let_go-had.ensures.released)
    (ap (λ (x : Shape). x.next_segment) c.let_go-had.ensures.released) (ap (λ (x : Shape). x.merging) c.let_go-had.ensures.released)))

pub returns-clause-held : goal.returns-clause-held
returns-clause-held g c = λ _. rw (← c.self.view_is) c.let_go-had.ensures.released
