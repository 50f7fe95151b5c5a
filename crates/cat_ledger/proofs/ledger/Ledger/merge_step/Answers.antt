use Rattle.std.proofs.Common.{◌≡◌, inl, inr}
use Rattle.std.specs.Prelude.{◌⊎◌}
use Rattle.cat_base.specs.declared.refusal.Refusal.TheVariants.{Damaged, Device}
use Rattle.cat_model.specs.Run.{Chore}
use Rattle.cat_ledger_laws.specs.model.Replies.{IsLeft, Maintains}
use Rattle.cat_ledger_laws.specs.shape.Ties.{Makes}
use Rattle.cat_ledger.specs.upkeep.News.{news_of}
use Rattle.cat_ledger.proofs.Lasting.{call_keeps, lets_left, lets_maintain}
use Rattle.cat_ledger.proofs.Results.{either_way, if_err}
use Rattle.cat_ledger.proofs.Synced.{own_stands}
use Rattle.cat_ledger.proofs.Untold.{untold_input}
use Rattle.cat_ledger.specs.Refusals.{HasUntoldInput}
use Rattle.cat_ledger_state.specs.Cores.{LacksInput, LacksOwn}
use Rattle.cat_ledger.specs.Lasting.{IsLasting}
use Rattle.cat_ledger.proofs.Histories.{call_goes, goes_so}
use Rattle.cat_ledger.proofs.Taken.{takes_maintain}
use Rattle.cat_ledger_laws.proofs.model.Taking.{takes_left}
use Rattle.cat_ledger.specs.Histories.{Event, Goes}
use Rattle.cat_ledger.proofs.ledger.Ledger.merge_step.Goals as goal

pub invariant_of-self : goal.invariant_of-self
invariant_of-self g c =
    let done = c.merge_step in
    let policy = c.self.inside.policy in
    either_way (IsLasting g.D.Holder.bytes g.D.Holder.may_leave done.new.device done.new.core)
    (Makes IsLeft (g.D.Holder.bytes c.self.inside.device) c.self.inside.core (g.D.Holder.bytes done.new.device) done.new.core) done.result
    done.ensures.ok done.ensures.err
    (λ news makes. call_keeps g.D.Holder.bytes g.D.Holder.may_leave g.met.D.Holder.may_stay (Maintains policy Chore.merge (news_of news))
    (lets_maintain policy Chore.merge (news_of news)) c.self.inside.device done.new.device c.self.inside.core done.new.core makes
    done.ensures.crash c.self.invariant)
    (λ left. call_keeps g.D.Holder.bytes g.D.Holder.may_leave g.met.D.Holder.may_stay IsLeft lets_left c.self.inside.device done.new.device
    c.self.inside.core done.new.core left done.ensures.crash c.self.invariant)

pub returns-clause-ok : goal.returns-clause-ok
returns-clause-ok g c = rw (← c.self.view_is) c.merge_step.ensures.ok

pub returns-clause-err : goal.returns-clause-err
returns-clause-err g c = rw (← c.self.view_is) c.merge_step.ensures.err

pub returns-clause-goes : goal.returns-clause-goes
returns-clause-goes g c =
    let done = c.merge_step in
    let policy = c.self.inside.policy in
    let bytes = g.D.Holder.bytes in
    let left = g.D.Holder.may_leave in
    rw (← c.self.view_is) (goes_so g.D.Holder.bytes g.D.Holder.may_leave (either_way
    (Goes bytes left Event.Other (record { device = c.self.inside.device; core = c.self.inside.core; policy = policy }) (record { device = done.new.device; core = done.new.core; policy = policy }))
    (Makes IsLeft (bytes c.self.inside.device) c.self.inside.core (bytes done.new.device) done.new.core) done.result done.ensures.ok done.ensures.err
    (λ news makes. call_goes bytes left (Maintains policy Chore.merge (news_of news)) (lets_maintain policy Chore.merge (news_of news)) (takes_maintain policy Chore.merge (news_of news)) c.self.inside.device
    done.new.device c.self.inside.core done.new.core policy policy makes c.self.invariant.carried done.ensures.crash done.ensures.commits)
    (λ made. call_goes bytes left IsLeft lets_left takes_left c.self.inside.device done.new.device c.self.inside.core done.new.core policy policy made c.self.invariant.carried done.ensures.crash done.ensures.commits)))

pub returns-clause-segments : goal.returns-clause-segments
returns-clause-segments g c = rw (← c.self.view_is) c.merge_step.ensures.segments

-- the file that the merge copies to stands, so the directory can fail
pub returns-clause-fails : goal.returns-clause-fails
returns-clause-fails g c =
    let told = g.D.Holder.bytes c.self.inside.device in
    rw (← c.self.view_is) (record {
      device = if_err (λ e. e ≡ Device → g.D.Holder.can_fail c.self.inside.device ⊎ LacksOwn told c.self.inside.core.merging)
          (λ e. e ≡ Device → g.D.Holder.can_fail c.self.inside.device) c.merge_step.result
          (λ e so is. elim (so is) [
            | inl fails ↦ fails
            | inr gone ↦ absurd (own_stands told c.self.inside.core c.self.invariant.carried gone)
          ]) c.merge_step.ensures.fails.device;
      counted = c.merge_step.ensures.fails.counted;
      memory = c.merge_step.ensures.fails.memory;
      can = c.merge_step.ensures.can;
      rises = c.merge_step.ensures.fails.rises;
    })

-- the files with sources are whole where they are told, so one isn't
pub returns-clause-untold : goal.returns-clause-untold
returns-clause-untold g c =
    let told = g.D.Holder.bytes c.self.inside.device in
    let merging = c.self.inside.core.merging in
    rw (← c.self.view_is) (if_err (λ e. e ≡ Damaged → LacksInput told merging) (λ e. e ≡ Damaged → HasUntoldInput told merging) c.merge_step.result
    (λ e lacks is. untold_input told c.self.inside.core c.self.invariant.carried (lacks is)) c.merge_step.ensures.short)
