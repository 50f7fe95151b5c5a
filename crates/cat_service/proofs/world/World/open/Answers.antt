use Rattle.std.proofs.Common.{◌∙◌, inr, refl, subst, sym}
use Rattle.std.specs.Prelude.{Ok, Err}
use Rattle.cat_model.specs.Served.{SpellsSchema}
use Rattle.cat_commands.specs.cat_ledger.Openings.{IsOpenedLedger}
use Rattle.cat_commands.specs.cat_ledger.Ledgers.{device_in, shape_in}
use Rattle.cat_ledger_laws.specs.model.Plans.{MergePolicy}
use Rattle.cat_service.proofs.Begun.{begins_so, begun, carried_there, opening_counts, unasked, unopened}
use Rattle.cat_service.proofs.Beside.{no_sets, no_states}
use Rattle.cat_service.proofs.world.World.open.Goals as goal

pub returns-in-Err-clause-opens : goal.returns-in-Err-clause-opens
returns-in-Err-clause-opens g c = (c.in-Err.ensures.refused (g.D.Holder.bytes c.args.device), (λ q. refl), λ q e h. h)

pub returns-in-Err-clause-counted : goal.returns-in-Err-clause-counted
returns-in-Err-clause-counted g c = unasked (g.D.Holder.can_fail c.args.device) (g.D.Holder.fault_count c.args.device) c.in-Err.cause c.in-Err.ensures.unasked

pub returns-in-Ok-open-clause-opens : goal.returns-in-Ok-open-clause-opens
returns-in-Ok-open-clause-opens g c =
    let asked = c.in-Ok.asked in
    let line = c.in-Ok.ensures.spelled in
    let ledger = c.in-Ok-open.ledger in
    let told = g.D.Holder.bytes c.args.device in
    let begins = begun told (g.D.Holder.bytes (device_in ledger)) asked.1 (shape_in ledger) c.in-Ok-open.ensures.ok in (
      begins.0,
      begins_so told c.args.line.now asked.0.factor asked.0.least line.1 asked.1 (Ok begins.0) line.0 line.2 line.3 begins.1,
      c.in-Ok-open.ensures.fields ∙ sym begins.2,
      begins.3,
    )

pub returns-in-Ok-open-clause-ahead : goal.returns-in-Ok-open-clause-ahead
returns-in-Ok-open-clause-ahead g c = c.in-Ok-open.ensures.ahead

pub returns-in-Ok-open-clause-begins : goal.returns-in-Ok-open-clause-begins
returns-in-Ok-open-clause-begins g c =
    let line = c.in-Ok.ensures.spelled in
    let ledger = c.in-Ok-open.ledger in (
      subst (λ k. IsOpenedLedger (g.D.Holder.bytes c.args.device) k (g.D.Holder.bytes (device_in ledger)) (shape_in ledger)) (sym c.in-Ok-open.ensures.fields)
          c.in-Ok-open.ensures.ok,
      c.in-Ok-open.ensures.swept,
      line.1,
      subst (λ (p : MergePolicy). SpellsSchema c.args.line.now p.factor p.least line.1) (sym c.in-Ok-open.ensures.policy) line.2,
    )

pub returns-in-Ok-open-clause-sets : goal.returns-in-Ok-open-clause-sets
returns-in-Ok-open-clause-sets g c = c.in-Ok.ensures.kept.0

pub returns-in-Ok-open-clause-can : goal.returns-in-Ok-open-clause-can
returns-in-Ok-open-clause-can g c = c.in-Ok-open.ensures.can

pub returns-in-Err-open-clause-opens : goal.returns-in-Err-open-clause-opens
returns-in-Err-open-clause-opens g c =
    let asked = c.in-Ok.asked in
    let line = c.in-Ok.ensures.spelled in
    let told = g.D.Holder.bytes c.args.device in
    let e = c.in-Err-open.field-0.refusal in
    let ensures = c.in-Err-open.ensures in (
      inr (begins_so told c.args.line.now asked.0.factor asked.0.least line.1 asked.1 (Err e) line.0 line.2 line.3
          (unopened told asked.1 e ensures.refusal ensures.damaged ensures.foreign)),
      ensures.same,
      ensures.spared,
    )

pub returns-in-Err-open-clause-counted : goal.returns-in-Err-open-clause-counted
returns-in-Err-open-clause-counted g c =
    opening_counts (g.D.Holder.can_fail c.args.device) (g.D.Holder.fault_count c.args.device) (g.D.Holder.fault_count c.in-Err-open.field-0.device)
    c.in-Err-open.field-0.refusal c.in-Err-open.ensures.device c.in-Err-open.ensures.counted

pub invariant_of-result : goal.invariant_of-result
invariant_of-result g c =
    let ledger = c.in-Ok-open.ledger in
    let stands = c.in-Ok-open.ensures.stands in record {
      carried = carried_there (g.D.Holder.bytes (device_in ledger)) (shape_in ledger) stands.0 stands.2;
      sets = no_sets (shape_in ledger) c.in-Ok.asked.2 c.in-Ok.ensures.kept.0;
      kept = no_states (shape_in ledger) c.in-Ok.asked.3 c.in-Ok.ensures.kept.1;
    }

pub returns-in-Err-clause-ahead : goal.returns-in-Err-clause-ahead
returns-in-Err-clause-ahead g c = tt

pub returns-in-Err-clause-begins : goal.returns-in-Err-clause-begins
returns-in-Err-clause-begins g c = tt

pub returns-in-Err-clause-sets : goal.returns-in-Err-clause-sets
returns-in-Err-clause-sets g c = tt

pub returns-in-Err-clause-can : goal.returns-in-Err-clause-can
returns-in-Err-clause-can g c = tt

pub returns-in-Err-open-clause-ahead : goal.returns-in-Err-open-clause-ahead
returns-in-Err-open-clause-ahead g c = tt

pub returns-in-Err-open-clause-begins : goal.returns-in-Err-open-clause-begins
returns-in-Err-open-clause-begins g c = tt

pub returns-in-Err-open-clause-sets : goal.returns-in-Err-open-clause-sets
returns-in-Err-open-clause-sets g c = tt

pub returns-in-Err-open-clause-can : goal.returns-in-Err-open-clause-can
returns-in-Err-open-clause-can g c = tt
