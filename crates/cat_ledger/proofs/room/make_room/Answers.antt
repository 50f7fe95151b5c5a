use Rattle.std.proofs.Common.{List, [], ◌≡◌, ◌<◌, ap, arith, length}
use Rattle.cat_model.specs.Limits.{buffer_limit}
use Rattle.cat_model.specs.Item.{Record}
use Rattle.cat_ledger.proofs.Made.{room_made}
use Rattle.cat_ledger.proofs.Results.{if_err, on_ok}
use Rattle.cat_ledger.proofs.room.make_room.Goals as goal

none_fills : (waits : List Record) → waits ≡ [] → length waits < buffer_limit
none_fills waits none = omega (arith, ap length none)

pub returns-clause-ok : goal.returns-clause-ok
returns-clause-ok g c =
    on_ok c.flush.result
    (room_made (g.D.Holder.bytes c.args.device.now) (g.D.Holder.bytes c.flush.new.device) c.args.core.now c.flush.new.core (c.is_due.ensures.0 c.if-not-is_due.false))
    c.flush.ensures.made

pub returns-clause-space : goal.returns-clause-space
returns-clause-space g c = on_ok c.flush.result (none_fills c.flush.new.core.buffered) c.flush.ensures.flushed

pub returns-clause-may : goal.returns-clause-may
returns-clause-may g c = on_ok c.flush.result (λ no full. no) c.flush.ensures.may

pub returns-clause-spent : goal.returns-clause-spent
returns-clause-spent g c = if_err _ _ c.flush.result (λ e k is. (c.is_due.ensures.0 c.if-not-is_due.false, k is)) c.flush.ensures.spent

pub returns-clause-schema : goal.returns-clause-schema
returns-clause-schema g c = c.flush.ensures.schema

pub returns-clause-count : goal.returns-clause-count
returns-clause-count g c = c.flush.ensures.count

pub returns-clause-merging : goal.returns-clause-merging
returns-clause-merging g c = c.flush.ensures.merging

pub returns-clause-known : goal.returns-clause-known
returns-clause-known g c = c.flush.ensures.known

pub returns-clause-err : goal.returns-clause-err
returns-clause-err g c = c.flush.ensures.err

pub returns-clause-crash : goal.returns-clause-crash
returns-clause-crash g c = c.flush.ensures.crash

pub returns-clause-commits : goal.returns-clause-commits
returns-clause-commits g c = c.flush.ensures.commits

pub returns-clause-due : goal.returns-clause-due
returns-clause-due g c = c.flush.ensures.due

pub returns-clause-fails : goal.returns-clause-fails
returns-clause-fails g c = c.flush.ensures.fails

pub returns-clause-quiet : goal.returns-clause-quiet
returns-clause-quiet g c = c.flush.ensures.quiet

pub returns-clause-refusal : goal.returns-clause-refusal
returns-clause-refusal g c = c.flush.ensures.refusal
