use Rattle.cat_ledger.proofs.Made.{flush_begun, flush_made, left_begun}
use Rattle.cat_ledger_state.specs.Cores.{flush_begins}
use Rattle.cat_ledger.proofs.Histories.{flush_spares}
use Rattle.cat_ledger.proofs.Ordered.{flushed_untold, given_up_untold}
use Rattle.cat_ledger.proofs.Refused.{flushed_known, flushed_merging, given_up_merging}
use Rattle.cat_ledger.proofs.room.flush.Goals as goal

pub returns-in-Err-clause-err : goal.returns-in-Err-clause-err
returns-in-Err-clause-err g c =
    left_begun (flush_begins c.args.core.now) (g.D.Holder.bytes c.args.device.now) (g.D.Holder.bytes c.flush.new.device) c.args.core.now c.flush.new.self
    (flush_begun c.args.core.now) c.in-Err.ensures.err

pub returns-clause-ok : goal.returns-clause-ok
returns-clause-ok g c =
    flush_made (g.D.Holder.bytes c.args.device.now) (g.D.Holder.bytes c.flush.new.device) c.args.core.now c.flush.new.self c.in_default.ensures.ok

pub returns-in-Err-clause-commits : goal.returns-in-Err-clause-commits
returns-in-Err-clause-commits g c =
    flush_spares c.args.core.now (g.D.Holder.may_leave c.args.device.now) (g.D.Holder.may_leave c.flush.new.device) c.flush.ensures.crash

pub returns-clause-commits : goal.returns-clause-commits
returns-clause-commits g c =
    flush_spares c.args.core.now (g.D.Holder.may_leave c.args.device.now) (g.D.Holder.may_leave c.flush.new.device) c.flush.ensures.crash

pub returns-in-Err-clause-merging : goal.returns-in-Err-clause-merging
returns-in-Err-clause-merging g c =
    given_up_merging (flush_begins c.args.core.now) (g.D.Holder.bytes c.args.device.now) (g.D.Holder.bytes c.flush.new.device) c.args.core.now c.flush.new.self c.in-Err.ensures.err

pub returns-clause-merging : goal.returns-clause-merging
returns-clause-merging g c =
    flushed_merging (g.D.Holder.bytes c.args.device.now) (g.D.Holder.bytes c.flush.new.device) c.args.core.now c.flush.new.self c.in_default.ensures.ok

pub returns-clause-known : goal.returns-clause-known
returns-clause-known g c =
    flushed_known (g.D.Holder.bytes c.args.device.now) (g.D.Holder.bytes c.flush.new.device) c.args.core.now c.flush.new.self c.in_default.ensures.ok

pub returns-in-Err-clause-own : goal.returns-in-Err-clause-own
returns-in-Err-clause-own g c =
    given_up_untold (g.D.Holder.bytes c.args.device.now) (g.D.Holder.bytes c.flush.new.device) c.args.core.now c.flush.new.self c.in-Err.ensures.err

pub returns-clause-own : goal.returns-clause-own
returns-clause-own g c =
    flushed_untold (g.D.Holder.bytes c.args.device.now) (g.D.Holder.bytes c.flush.new.device) c.args.core.now c.flush.new.self c.in_default.ensures.ok

-- what it is refused for

pub returns-in-Err-clause-spent : goal.returns-in-Err-clause-spent
returns-in-Err-clause-spent g c = c.in-Err.ensures.spent

pub returns-in-Err-clause-due : goal.returns-in-Err-clause-due
returns-in-Err-clause-due g c = c.in-Err.ensures.due

pub returns-in-Err-clause-fails : goal.returns-in-Err-clause-fails
returns-in-Err-clause-fails g c = c.in-Err.ensures.fails

pub returns-in-Err-clause-refusal : goal.returns-in-Err-clause-refusal
returns-in-Err-clause-refusal g c = c.in-Err.ensures.refusal
