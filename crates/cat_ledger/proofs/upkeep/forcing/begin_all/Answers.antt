use Rattle.std.proofs.Common.{◌≡◌, List, [], ◌∷◌, length, true, false, refl, sym, ap, subst}
use Rattle.cat_model.specs.Files.{Name}
use Rattle.cat_model.specs.View.{Leaf}
use Rattle.cat_ledger_laws.specs.model.Plans.{MayBeForced}
use Rattle.cat_ledger_laws.specs.lines.PlanLaws.{sizes_in, live_sets_in}
use Rattle.cat_ledger_laws.proofs.lines.Planned.{forces_rest}
use Rattle.cat_ledger.proofs.upkeep.Made.{left_begun, all_fit, all_begun}
use Rattle.cat_ledger.proofs.upkeep.Spared.{begun_spares}
use Rattle.cat_ledger.proofs.Refused.{given_up_segments, goes_on_behind}
use Rattle.cat_ledger.proofs.upkeep.forcing.begin_all.Goals as goal

abbrev MayAll : List Leaf → Type 0
MayAll leaves = MayBeForced (sizes_in leaves) (live_sets_in leaves)

pub returns-then-not-may_be_forced-clause-ok : goal.returns-then-not-may_be_forced-clause-ok
returns-then-not-may_be_forced-clause-ok g c = λ policy.
    let told = g.D.Holder.bytes c.args.device.now in
    forces_rest policy c.args.core.now told told c.requires
    (λ may. let no : false ≡ true = c.if-not-may_be_forced.ensures.1 (subst MayAll (sym c.leaves.ensures) may) in absurd cc)
    (λ q. refl)

pub begin_merge-requires-clause-few : goal.begin_merge-requires-clause-few
begin_merge-requires-clause-few g c =
    all_fit (length c.leaves-count.result.now) c.args.core.now.leaves (ap (λ (leaves : List Leaf). length leaves) c.leaves-count.ensures)
    (subst MayAll c.leaves.ensures (c.if-not-may_be_forced.ensures.0 refl))

pub returns-in-Err-clause-err : goal.returns-in-Err-clause-err
returns-in-Err-clause-err g c =
    left_begun (g.D.Holder.bytes c.args.device.now) (g.D.Holder.bytes c.begin_merge.new.device) c.args.core.now c.begin_merge.new.self c.in-Err.ensures.err

pub returns-clause-ok : goal.returns-clause-ok
returns-clause-ok g c = λ policy.
    all_begun policy (length c.leaves-count.result.now) (g.D.Holder.bytes c.args.device.now) (g.D.Holder.bytes c.begin_merge.new.device)
    c.args.core.now c.begin_merge.new.self (ap (λ (leaves : List Leaf). length leaves) c.leaves-count.ensures)
    (subst MayAll c.leaves.ensures (c.if-not-may_be_forced.ensures.0 refl)) c.in_default.ensures.ok c.begin_merge.ensures.others
    c.in_default.ensures.told

pub returns-in-Err-clause-commits : goal.returns-in-Err-clause-commits
returns-in-Err-clause-commits g c =
    begun_spares (g.D.Holder.may_leave c.args.device.now) (g.D.Holder.may_leave c.begin_merge.new.device) c.args.core.now.next_segment c.begin_merge.ensures.crash

pub returns-clause-commits : goal.returns-clause-commits
returns-clause-commits g c =
    begun_spares (g.D.Holder.may_leave c.args.device.now) (g.D.Holder.may_leave c.begin_merge.new.device) c.args.core.now.next_segment c.begin_merge.ensures.crash

pub returns-in-Err-clause-stays : goal.returns-in-Err-clause-stays
returns-in-Err-clause-stays g c =
    goes_on_behind (Name.source c.args.core.now.next_segment ∷ []) (g.D.Holder.bytes c.args.device.now) (g.D.Holder.bytes c.begin_merge.new.device) c.args.core.now c.args.core.now
    c.begin_merge.new.self refl (λ q there. there) c.in-Err.ensures.err c.in-Err.ensures.known

pub returns-in-Err-clause-segments : goal.returns-in-Err-clause-segments
returns-in-Err-clause-segments g c =
    given_up_segments (Name.source c.args.core.now.next_segment ∷ []) (g.D.Holder.bytes c.args.device.now) (g.D.Holder.bytes c.begin_merge.new.device) c.args.core.now
    c.begin_merge.new.self c.in-Err.ensures.err c.in-Err.ensures.known
