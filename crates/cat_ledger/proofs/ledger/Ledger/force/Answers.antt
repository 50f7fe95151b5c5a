use Rattle.cat_model.specs.Run.{Chore}
use Rattle.cat_ledger_laws.specs.model.Replies.{IsLeft, Maintains}
use Rattle.cat_ledger_laws.specs.shape.Ties.{Makes}
use Rattle.cat_ledger.specs.upkeep.News.{news_of}
use Rattle.cat_ledger.proofs.Lasting.{call_keeps, lets_left, lets_maintain}
use Rattle.cat_ledger.proofs.Results.{either_way, if_ok}
use Rattle.cat_ledger.specs.Lasting.{IsLasting}
use Rattle.cat_ledger.proofs.Histories.{call_goes, goes_so}
use Rattle.cat_ledger.proofs.Taken.{takes_maintain}
use Rattle.cat_ledger_laws.proofs.model.Taking.{takes_left}
use Rattle.cat_ledger.specs.Histories.{Event, Goes}
use Rattle.cat_ledger.proofs.ledger.Ledger.force.Goals as goal

pub invariant_of-self : goal.invariant_of-self
invariant_of-self g c =
    let done = c.force in
    let policy = c.self.inside.policy in
    either_way (IsLasting g.D.Holder.bytes g.D.Holder.may_leave done.new.device done.new.core)
    (Makes IsLeft (g.D.Holder.bytes c.self.inside.device) c.self.inside.core (g.D.Holder.bytes done.new.device) done.new.core) done.result
    done.ensures.ok done.ensures.err
    (λ news makes. call_keeps g.D.Holder.bytes g.D.Holder.may_leave g.met.D.Holder.may_stay (Maintains policy Chore.force (news_of news))
    (lets_maintain policy Chore.force (news_of news)) c.self.inside.device done.new.device c.self.inside.core done.new.core (makes policy)
    (λ q old apart. done.ensures.crash q old) c.self.invariant)
    (λ left. call_keeps g.D.Holder.bytes g.D.Holder.may_leave g.met.D.Holder.may_stay IsLeft lets_left c.self.inside.device done.new.device
    c.self.inside.core done.new.core left (λ q old apart. done.ensures.crash q old) c.self.invariant)

pub returns-clause-ok : goal.returns-clause-ok
returns-clause-ok g c = rw (← c.self.view_is) (if_ok _ _ c.force.result (λ news makes. makes c.self.inside.policy) c.force.ensures.ok)

pub returns-clause-err : goal.returns-clause-err
returns-clause-err g c = rw (← c.self.view_is) c.force.ensures.err

pub returns-clause-fails : goal.returns-clause-fails
returns-clause-fails g c = rw (← c.self.view_is) c.force.ensures.fails

pub returns-clause-goes : goal.returns-clause-goes
returns-clause-goes g c =
    let done = c.force in
    let policy = c.self.inside.policy in
    let bytes = g.D.Holder.bytes in
    let left = g.D.Holder.may_leave in
    rw (← c.self.view_is) (goes_so g.D.Holder.bytes g.D.Holder.may_leave (either_way
    (Goes bytes left Event.Other (record { device = c.self.inside.device; core = c.self.inside.core; policy = policy }) (record { device = done.new.device; core = done.new.core; policy = policy }))
    (Makes IsLeft (bytes c.self.inside.device) c.self.inside.core (bytes done.new.device) done.new.core) done.result done.ensures.ok done.ensures.err
    (λ news makes. call_goes bytes left (Maintains policy Chore.force (news_of news)) (lets_maintain policy Chore.force (news_of news)) (takes_maintain policy Chore.force (news_of news)) c.self.inside.device
    done.new.device c.self.inside.core done.new.core policy policy (makes policy) c.self.invariant.carried (λ q old apart. done.ensures.crash q old) done.ensures.commits)
    (λ made. call_goes bytes left IsLeft lets_left takes_left c.self.inside.device done.new.device c.self.inside.core done.new.core policy policy made c.self.invariant.carried (λ q old apart. done.ensures.crash q old) done.ensures.commits)))

pub returns-clause-stays : goal.returns-clause-stays
returns-clause-stays g c = rw (← c.self.view_is) c.force.ensures.stays

pub returns-clause-segments : goal.returns-clause-segments
returns-clause-segments g c = rw (← c.self.view_is) c.force.ensures.segments
