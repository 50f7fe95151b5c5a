use Rattle.std.proofs.Common.{refl, ◌∙◌}
use Rattle.cat_protocol.proofs.sending.Written.{gathered_at_fault, gathered_before, gathered_behind}
use Rattle.cat_protocol.proofs.replies.Pieces.{counted_in_pieces, key_on}
use Rattle.cat_protocol.proofs.replies.lists.put_label.Goals as goal

pub returns-in_err-put_first : goal.returns-in_err-put_first
returns-in_err-put_first g c =
    let d = c.args.counted.now in
    rw (counted_in_pieces c.args.session.now d c.count.result d.label c.count.ensures refl)
    (gathered_at_fault _ _ _ _ c.from_residual.ensures.0 (gathered_before _ _ (key_on d.label) c.in_err-put_first.ensures))

pub returns : goal.returns
returns g c =
    rw (counted_in_pieces c.args.session.now c.args.counted.now c.count.result c.as_bytes.result.now c.count.ensures (c.as_bytes.ensures.value ∙ c.label.ensures))
    (gathered_behind _ _ _ _ _ _ _ _ _ c.in_ok-put_first.ensures c.put_last.ensures)
