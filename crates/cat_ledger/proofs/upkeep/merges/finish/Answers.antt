use Rattle.cat_ledger.proofs.upkeep.Made.{left_failed, all_passed, installed_made}
use Rattle.cat_ledger.proofs.upkeep.Spared.{installed_spares}
use Rattle.cat_ledger.proofs.Failures.{writing_fails}
use Rattle.cat_ledger.proofs.Refused.{failed_segments}
use Rattle.cat_ledger.proofs.upkeep.merges.finish.Goals as goal

pub install-requires : goal.install-requires
install-requires g c = all_passed c.args.core.now c.count-count.ensures.shape c.requires.some c.requires.all

pub returns-in-Err-clause-fails : goal.returns-in-Err-clause-fails
returns-in-Err-clause-fails g c = writing_fails _ c.in-Err.ensures.fails c.install.ensures.rises

pub returns-clause-fails : goal.returns-clause-fails
returns-clause-fails g c = writing_fails _ c.in_default.ensures.fails c.install.ensures.rises

pub returns-in-Err-clause-err : goal.returns-in-Err-clause-err
returns-in-Err-clause-err g c =
    left_failed (g.D.Holder.bytes c.args.device.now) (g.D.Holder.bytes c.install.new.device) c.args.core.now c.install.new.self c.in-Err.ensures.err

pub returns-clause-ok : goal.returns-clause-ok
returns-clause-ok g c = λ policy.
    installed_made policy (g.D.Holder.bytes c.args.device.now) (g.D.Holder.bytes c.install.new.device) c.args.core.now c.install.new.self
    c.in_default.ensures.ok

pub returns-in-Err-clause-commits : goal.returns-in-Err-clause-commits
returns-in-Err-clause-commits g c =
    installed_spares (g.D.Holder.may_leave c.args.device.now) (g.D.Holder.may_leave c.install.new.device) c.args.core.now.merging c.install.ensures.crash

pub returns-clause-commits : goal.returns-clause-commits
returns-clause-commits g c =
    installed_spares (g.D.Holder.may_leave c.args.device.now) (g.D.Holder.may_leave c.install.new.device) c.args.core.now.merging c.install.ensures.crash

pub returns-in-Err-clause-segments : goal.returns-in-Err-clause-segments
returns-in-Err-clause-segments g c =
    failed_segments (g.D.Holder.bytes c.args.device.now) (g.D.Holder.bytes c.install.new.device) c.args.core.now c.install.new.self c.in-Err.ensures.err
    c.in-Err.ensures.known
