use Rattle.std.proofs.Common.{Err, Ok, sym, ◌∙◌}
use Rattle.cat_ledger.proofs.upkeep.Made.{left_ended, copied_made}
use Rattle.cat_ledger.proofs.upkeep.Spared.{copied_spares}
use Rattle.cat_ledger.proofs.Failures.{either, reading_fails, reading_refusals}
use Rattle.cat_ledger.proofs.Refused.{ended_segments}
use Rattle.cat_ledger.proofs.upkeep.merges.copy.Goals as goal

pub returns-in-Err-clause-fails : goal.returns-in-Err-clause-fails
returns-in-Err-clause-fails g c = reading_fails (Err c.in-Err.refusal) c.in-Err.ensures.device c.in-Err.ensures.counted (either c.copy_rows.ensures.can)

pub returns-clause-fails : goal.returns-clause-fails
returns-clause-fails g c = reading_fails (Ok c.in-Some.passed) tt c.in_default.ensures.counted (either c.copy_rows.ensures.can)

pub returns-in-Err-clause-err : goal.returns-in-Err-clause-err
returns-in-Err-clause-err g c =
    left_ended (g.D.Holder.bytes c.args.device.now) (g.D.Holder.bytes c.copy_rows.new.device) c.args.core.now c.copy_rows.new.self c.in-Err.ensures.err

pub returns-clause-ok : goal.returns-clause-ok
returns-clause-ok g c = λ policy.
    copied_made policy c.in-Some.passed (g.D.Holder.bytes c.args.device.now) (g.D.Holder.bytes c.copy_rows.new.device) c.args.core.now
    c.copy_rows.new.self c.in_default.ensures.ok (sym c.rows_passed.ensures ∙ c.in-Some.is)

pub returns-in-Err-clause-commits : goal.returns-in-Err-clause-commits
returns-in-Err-clause-commits g c =
    copied_spares (g.D.Holder.may_leave c.args.device.now) (g.D.Holder.may_leave c.copy_rows.new.device) c.args.core.now.merging c.copy_rows.ensures.crash

pub returns-clause-commits : goal.returns-clause-commits
returns-clause-commits g c =
    copied_spares (g.D.Holder.may_leave c.args.device.now) (g.D.Holder.may_leave c.copy_rows.new.device) c.args.core.now.merging c.copy_rows.ensures.crash

pub returns-in-Err-clause-segments : goal.returns-in-Err-clause-segments
returns-in-Err-clause-segments g c =
    ended_segments (g.D.Holder.bytes c.args.device.now) (g.D.Holder.bytes c.copy_rows.new.device) c.args.core.now c.copy_rows.new.self c.in-Err.ensures.err

pub returns-in-Err-clause-lacking : goal.returns-in-Err-clause-lacking
returns-in-Err-clause-lacking g c = c.in-Err.ensures.lacking

pub returns-in-Err-clause-short : goal.returns-in-Err-clause-short
returns-in-Err-clause-short g c = c.in-Err.ensures.short

pub returns-in-Err-clause-reach : goal.returns-in-Err-clause-reach
returns-in-Err-clause-reach g c = c.in-Err.ensures.due

pub returns-in-Err-clause-refusal : goal.returns-in-Err-clause-refusal
returns-in-Err-clause-refusal g c = reading_refusals _ _ c.in-Err.refusal c.in-Err.ensures.counted
