use Rattle.std.proofs.Common.{Err, refl}
use Rattle.cat_base.specs.declared.refusal.Refusal.TheVariants.{Memory}
use Rattle.cat_ledger.proofs.Failures.{memory_is_none, quiet_fails}
use Rattle.cat_ledger.proofs.Made.{flush_left, may_still}
use Rattle.cat_ledger_laws.proofs.lines.JoinedCalls.{refreshes_make}
use Rattle.cat_ledger.proofs.Refused.{goes_on}
use Rattle.cat_ledger.proofs.views.flush_and_record.Goals as goal

pub returns-in-Ok-clause-ok : goal.returns-in-Ok-clause-ok
returns-in-Ok-clause-ok g c =
    refreshes_make (g.D.Holder.bytes c.args.device.now) (g.D.Holder.bytes c.flush.new.device) (g.D.Holder.bytes c.flush.new.device)
    c.args.core.now c.flush.new.core c.record_where_none.new.core c.in_default.ensures.ok (c.in-Ok.ensures.ok (g.D.Holder.bytes c.flush.new.device))

pub returns-in-Err-record_where_none-clause-fails : goal.returns-in-Err-record_where_none-clause-fails
returns-in-Err-record_where_none-clause-fails g c =
    quiet_fails (Err Memory) (λ is. absurd (memory_is_none is)) c.in_default.ensures.quiet c.flush.ensures.fails.can

pub returns-in-Err-record_where_none-clause-err : goal.returns-in-Err-record_where_none-clause-err
returns-in-Err-record_where_none-clause-err g c =
    flush_left (g.D.Holder.bytes c.args.device.now) (g.D.Holder.bytes c.flush.new.device) c.args.core.now c.flush.new.core c.record_where_none.new.core
    c.in_default.ensures.made c.in-Err-record_where_none.ensures.err

pub returns-in-Err-record_where_none-clause-due : goal.returns-in-Err-record_where_none-clause-due
returns-in-Err-record_where_none-clause-due g c = λ _. c.in_default.ensures.may

pub record_where_none-requires-clause-may : goal.record_where_none-requires-clause-may
record_where_none-requires-clause-may g c =
    may_still c.args.core.now c.flush.new.core c.in_default.ensures.count c.in_default.ensures.views c.in_default.ensures.holds c.requires

pub returns-in-Err-clause-stays : goal.returns-in-Err-clause-stays
returns-in-Err-clause-stays g c =
    goes_on c.args.core.now c.flush.new.core c.flush.new.core c.flush.ensures.merging c.flush.ensures.known refl

pub returns-in-Err-record_where_none-clause-stays : goal.returns-in-Err-record_where_none-clause-stays
returns-in-Err-record_where_none-clause-stays g c =
    goes_on c.args.core.now c.flush.new.core c.record_where_none.new.core c.flush.ensures.merging c.flush.ensures.known
    c.in-Err-record_where_none.ensures.err
