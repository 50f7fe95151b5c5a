use Rattle.std.proofs.Common.{refl, arith}
use Rattle.cat_model.specs.Answer.{Read}
use Rattle.cat_model.specs.Lines.{Said}
use Rattle.cat_commands.specs.cat_protocol.replies.Reply.{reply_of}
use Rattle.cat_commands.specs.cat_ledger.Ledgers.{device_in, policy_in, shape_in}
use Rattle.cat_commands.proofs.sets.Right.{remembered_are_right}
use Rattle.cat_service.proofs.Beside.{IsLent, held_sets, held_states, states_after}
use Rattle.cat_service.proofs.Cached.{read_uses}
use Rattle.cat_service.proofs.Histories.{nothing_goes}
use Rattle.cat_service.proofs.Kept.{does}
use Rattle.cat_service.proofs.ReadAnswers.{facets_answers}
use Rattle.cat_service.proofs.Wanted.{stopped, facets_wants}
use Rattle.cat_service.proofs.world.World.answer_facets.Goals as goal

pub count_facets-requires-clause-cached : goal.count_facets-requires-clause-cached
count_facets-requires-clause-cached g c =
    held_sets (shape_in c.self.inside.ledger) c.args.session c.args.facets.token (λ v. v.now) c.self.inside.filters c.self.invariant.sets
    c.held_view-held.result (record { some = c.held_view-held.ensures.some; none = c.held_view-held.ensures.none })

pub count_facets-requires-clause-kept : goal.count_facets-requires-clause-kept
count_facets-requires-clause-kept g c =
    held_states (shape_in c.self.inside.ledger) c.args.session c.args.facets.token (λ v. v.now) c.self.inside.states c.self.invariant.kept
    c.held_view-held.result (record { some = c.held_view-held.ensures.some; none = c.held_view-held.ensures.none })

pub invariant_of-self : goal.invariant_of-self
invariant_of-self g c =
    let ledger = c.self.inside.ledger in
    let w = c.self.invariant in
    let agree =
    c.segments_are_one.ensures (g.D.Holder.bytes (device_in ledger)) (shape_in ledger) w.carried.0 w.carried.1 w.carried.2 in record {
      carried = w.carried;
      sets =
          remembered_are_right (shape_in ledger) c.self.inside.filters c.count_facets.new.filters c.count_facets.ensures.known c.count_facets.ensures.below
          w.sets;
      kept =
          states_after (shape_in ledger) c.args.session c.args.facets.token (λ v. v.now) agree c.self.inside.states c.count_facets.new.states
          c.held_view-held.result (record { some = c.held_view-held.ensures.some; none = c.held_view-held.ensures.none })
          c.count_facets.ensures.kept c.count_facets.ensures.kept_below w.kept;
    }

pub returns-clause-does : goal.returns-clause-does
returns-clause-does g c = rw (← c.self.view_is) (
    let facets = c.args.facets in
    let ledger = c.self.inside.ledger in
    let s = shape_in ledger in
    let told = g.D.Holder.bytes (device_in ledger) in
    let held = c.held_view-held.result in
    let lent : IsLent s c.args.session facets.token (λ v. v.now) held = (record { some = c.held_view-held.ensures.some; none = c.held_view-held.ensures.none }) in
    does g.D.Holder.bytes g.D.Holder.can_fail g.D.Holder.fault_count c.args.session (Said.facets facets.token facets.dimension.now facets.count facets.query.now)
    ledger (reply_of c.count_facets.result) ledger c.count_facets.new.filters c.self.invariant (record { spent = λ k. tt; device = λ k. tt; counted = λ k. tt; damaged = λ k. tt; reached = λ k. tt; quiet = λ k. refl; told = tt; swept = tt; rises = omega arith; stays = tt; keeps = tt; making = λ e k other. refl; still = λ e k other. refl })
    (read_uses s c.args.session facets.token facets.query.now c.self.inside.filters c.count_facets.new.filters (λ v. v.now) held lent
    (λ q. Read.facets facets.dimension.now facets.count q) c.count_facets.result
    (rw c.schema.ensures at c.count_facets.ensures.told) (rw c.schema.ensures at c.count_facets.ensures.noted)
    (rw c.schema.ensures at c.count_facets.ensures.used))
    (facets_answers (policy_in ledger) told s c.args.session facets.token (λ v. v.now) held lent facets.dimension.now facets.count facets.query.now
    (reply_of c.count_facets.result) (rw c.schema.ensures at c.count_facets.ensures.told))
    (λ x. x) refl refl
    (λ k.
    facets_wants told s c.args.session c.count_facets.result (stopped c.count_facets.result k) (λ v. v.now) held facets.token lent facets.dimension.now
    facets.count facets.query.now (rw c.schema.ensures at c.count_facets.ensures.fault) (rw c.schema.ensures at c.count_facets.ensures.unheld)
    (rw c.schema.ensures at c.count_facets.ensures.due)))

pub returns-clause-history : goal.returns-clause-history
returns-clause-history g c = rw (← c.self.view_is) (nothing_goes g.D.Holder.bytes g.D.Holder.may_leave c.self.inside.ledger)
