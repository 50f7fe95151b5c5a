use Rattle.std.proofs.Common.{◌∙◌, append-nil, arith, sym}
use Rattle.std.proofs.lemmas.List.{take_all}
use Rattle.std.specs.Fmt.{decimal}
use Rattle.cat_protocol.proofs.sending.Written.{gathered_at_fault, taken_in}
use Rattle.cat_protocol.proofs.replies.Pieces.{entry_line, gathered_more, gathered_within}
use Rattle.cat_protocol.proofs.replies.lists.put_entries.Goals as goal

pub loop-entry-preserved : goal.loop-entry-preserved
loop-entry-preserved g c =
    gathered_more (entry_line (decimal c.args.session)) c.args.entries.now c.loop-entry.entry-index c.entry-item.result _ _ _ _ _ _ c.loop-entry-test.true c.loop-entry.invariant
    (rw (← c.entry-item.is, ← (c.as_bytes-session.ensures.value ∙ c.format.ensures.text)) c.in_ok-put_entry.ensures)

pub returns-in_err-put_entry : goal.returns-in_err-put_entry
returns-in_err-put_entry g c =
    gathered_at_fault _ _ _ _ c.from_residual.ensures.0
    (gathered_within (entry_line (decimal c.args.session)) c.args.entries.now c.loop-entry.entry-index c.entry-item.result _ _ _ _ _ c.loop-entry-test.true c.loop-entry.invariant
    (rw (← c.entry-item.is, ← (c.as_bytes-session.ensures.value ∙ c.format.ensures.text)) c.in_err-put_entry.ensures))

pub loop-entry-init : goal.loop-entry-init
loop-entry-init g c = taken_in _ _ _ _ (sym (append-nil _))

pub returns : goal.returns
returns g c = rw (take_all c.loop-entry.entry-index c.args.entries.now (omega (arith, c.loop-entry-test.false))) at c.loop-entry.invariant
