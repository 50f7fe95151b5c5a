use Rattle.std.proofs.Common.{◌∙◌, append-nil, arith, sym}
use Rattle.std.proofs.lemmas.List.{take_all}
use Rattle.std.specs.Fmt.{decimal}
use Rattle.cat_protocol.proofs.sending.Written.{gathered_at_fault, taken_in}
use Rattle.cat_protocol.proofs.replies.Pieces.{counted_line, gathered_more, gathered_within}
use Rattle.cat_protocol.proofs.replies.lists.put_labels.Goals as goal

pub loop-counted-preserved : goal.loop-counted-preserved
loop-counted-preserved g c =
    gathered_more (counted_line (decimal c.args.session)) c.args.counts.now c.loop-counted.counted-index c.counted-item.result _ _ _ _ _ _ c.loop-counted-test.true c.loop-counted.invariant
    (rw (← c.counted-item.is, ← (c.as_bytes-session.ensures.value ∙ c.format.ensures.text)) c.in_ok-put_label.ensures)

pub returns-in_err-put_label : goal.returns-in_err-put_label
returns-in_err-put_label g c =
    gathered_at_fault _ _ _ _ c.from_residual.ensures.0
    (gathered_within (counted_line (decimal c.args.session)) c.args.counts.now c.loop-counted.counted-index c.counted-item.result _ _ _ _ _ c.loop-counted-test.true c.loop-counted.invariant
    (rw (← c.counted-item.is, ← (c.as_bytes-session.ensures.value ∙ c.format.ensures.text)) c.in_err-put_label.ensures))

pub loop-counted-init : goal.loop-counted-init
loop-counted-init g c = taken_in _ _ _ _ (sym (append-nil _))

pub returns : goal.returns
returns g c = rw (take_all c.loop-counted.counted-index c.args.counts.now (omega (arith, c.loop-counted-test.false))) at c.loop-counted.invariant
