use Rattle.std.proofs.Common.{[], ◌∷◌, arith}
use Rattle.std.proofs.lemmas.Grind.{elements}
use Rattle.cat_model.specs.Files.{Name}
use Rattle.cat_ledger.proofs.upkeep.Made.{left_begun, window_fits, window_begun}
use Rattle.cat_ledger.proofs.upkeep.Spared.{begun_spares}
use Rattle.cat_ledger.proofs.Refused.{given_up_segments}
use Rattle.cat_ledger.proofs.upkeep.merges.begin_at.Goals as goal

pub begin_merge-requires-clause-few : goal.begin_merge-requires-clause-few
begin_merge-requires-clause-few g c =
    window_fits c.args.policy c.args.index c.factor-count.result c.args.core.now.leaves c.factor-count.ensures.number c.requires.window

pub returns-in-Err-clause-err : goal.returns-in-Err-clause-err
returns-in-Err-clause-err g c =
    left_begun (g.D.Holder.bytes c.args.device.now) (g.D.Holder.bytes c.begin_merge.new.device) c.args.core.now c.begin_merge.new.self c.in-Err.ensures.err

pub returns-clause-ok : goal.returns-clause-ok
returns-clause-ok g c =
    window_begun c.args.policy c.args.index c.factor-count.result (g.D.Holder.bytes c.args.device.now) (g.D.Holder.bytes c.begin_merge.new.device)
    c.args.core.now c.begin_merge.new.self c.factor-count.ensures.number c.requires.window c.in_default.ensures.ok c.begin_merge.ensures.others
    c.in_default.ensures.told

pub returns-in-Err-clause-commits : goal.returns-in-Err-clause-commits
returns-in-Err-clause-commits g c =
    begun_spares (g.D.Holder.may_leave c.args.device.now) (g.D.Holder.may_leave c.begin_merge.new.device) c.args.core.now.next_segment c.begin_merge.ensures.crash

pub returns-clause-commits : goal.returns-clause-commits
returns-clause-commits g c =
    begun_spares (g.D.Holder.may_leave c.args.device.now) (g.D.Holder.may_leave c.begin_merge.new.device) c.args.core.now.next_segment c.begin_merge.ensures.crash

pub returns-in-Err-clause-segments : goal.returns-in-Err-clause-segments
returns-in-Err-clause-segments g c =
    given_up_segments (Name.source c.args.core.now.next_segment ∷ []) (g.D.Holder.bytes c.args.device.now) (g.D.Holder.bytes c.begin_merge.new.device) c.args.core.now
    c.begin_merge.new.self c.in-Err.ensures.err c.in-Err.ensures.known

pub begin_merge-requires-clause-within : goal.begin_merge-requires-clause-within
begin_merge-requires-clause-within c = grind (arith, elements)
