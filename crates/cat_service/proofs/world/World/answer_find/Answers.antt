use Rattle.std.proofs.Common.{refl, arith}
use Rattle.cat_model.specs.Answer.{Read}
use Rattle.cat_model.specs.Lines.{Said}
use Rattle.cat_commands.specs.cat_search.Sorts.{sort_of}
use Rattle.cat_commands.specs.cat_protocol.replies.Reply.{reply_of}
use Rattle.cat_commands.specs.cat_ledger.Ledgers.{device_in, policy_in, shape_in}
use Rattle.cat_commands.proofs.sets.Right.{remembered_are_right}
use Rattle.cat_service.proofs.Beside.{IsLent, held_sets}
use Rattle.cat_service.proofs.Cached.{read_uses}
use Rattle.cat_service.proofs.Histories.{nothing_goes}
use Rattle.cat_service.proofs.Kept.{does}
use Rattle.cat_service.proofs.ReadAnswers.{find_answers}
use Rattle.cat_service.proofs.Wanted.{stopped, find_wants}
use Rattle.cat_service.proofs.world.World.answer_find.Goals as goal

pub find-requires : goal.find-requires
find-requires g c =
    held_sets (shape_in c.self.inside.ledger) c.args.session c.args.find.token (λ v. v.now) c.self.inside.filters c.self.invariant.sets c.held_view-held.result
    (record { some = c.held_view-held.ensures.some; none = c.held_view-held.ensures.none })

pub invariant_of-self : goal.invariant_of-self
invariant_of-self g c = record {
  carried = c.self.invariant.carried;
  sets =
      remembered_are_right (shape_in c.self.inside.ledger) c.self.inside.filters c.find.new.filters c.find.ensures.known c.find.ensures.below
      c.self.invariant.sets;
  kept = c.self.invariant.kept;
}

pub returns-clause-does : goal.returns-clause-does
returns-clause-does g c = rw (← c.self.view_is) (
    let find = c.args.find in
    let sort = sort_of find.sort in
    let ledger = c.self.inside.ledger in
    let s = shape_in ledger in
    let told = g.D.Holder.bytes (device_in ledger) in
    let held = c.held_view-held.result in
    let lent : IsLent s c.args.session find.token (λ v. v.now) held = (record { some = c.held_view-held.ensures.some; none = c.held_view-held.ensures.none }) in
    does g.D.Holder.bytes g.D.Holder.can_fail g.D.Holder.fault_count c.args.session (Said.find find.token find.count sort find.mark find.query.now)
    ledger (reply_of c.find.result) ledger c.find.new.filters c.self.invariant (record { spent = λ k. tt; device = λ k. tt; counted = λ k. tt; damaged = λ k. tt; reached = λ k. tt; quiet = λ k. refl; told = tt; swept = tt; rises = omega arith; stays = tt; keeps = tt; making = λ e k other. refl; still = λ e k other. refl })
    (read_uses s c.args.session find.token find.query.now c.self.inside.filters c.find.new.filters (λ v. v.now) held lent
    (λ q. Read.find find.count sort find.mark q) c.find.result
    (rw c.schema.ensures at c.find.ensures.told) (rw c.schema.ensures at c.find.ensures.noted) (rw c.schema.ensures at c.find.ensures.used))
    (find_answers (policy_in ledger) told s c.args.session find.token (λ v. v.now) held lent find.count sort find.mark find.query.now
    (reply_of c.find.result) (rw c.schema.ensures at c.find.ensures.told))
    (λ x. x) refl refl
    (λ k.
    find_wants told s c.args.session c.find.result (stopped c.find.result k) (λ v. v.now) held find.token lent find.count sort find.mark find.query.now
    (rw c.schema.ensures at c.find.ensures.fault) (rw c.schema.ensures at c.find.ensures.unheld) (rw c.schema.ensures at c.find.ensures.due)))

pub returns-clause-history : goal.returns-clause-history
returns-clause-history g c = rw (← c.self.view_is) (nothing_goes g.D.Holder.bytes g.D.Holder.may_leave c.self.inside.ledger)
