use Rattle.std.proofs.Common.{codes, ◌∷◌}
use Rattle.std.specs.Fmt.{decimal}
use Rattle.cat_protocol.proofs.sending.Written.{gathered_at_fault, gathered_before, gathered_behind, gathered_front}
use Rattle.cat_protocol.proofs.replies.words.put_first.Goals as goal

pub returns-in_err-put : goal.returns-in_err-put
returns-in_err-put g c = gathered_at_fault _ _ _ _ c.from_residual.ensures.0 (gathered_before _ _ (32 ∷ decimal c.args.number) c.in_err-put.ensures)

pub returns-in_err-put-2 : goal.returns-in_err-put-2
returns-in_err-put-2 g c =
    gathered_at_fault _ _ _ _ c.from_residual-in_err-put-2.ensures.0
    (gathered_front _ _ _ _ _ _ _ c.in_ok-put.ensures (gathered_before _ (codes " ") (decimal c.args.number) c.in_err-put-2.ensures))

pub returns : goal.returns
returns g c =
    rw (← c.format.ensures.text, ← c.as_bytes.ensures.value)
    (gathered_behind _ _ _ _ _ _ _ _ _ c.in_ok-put.ensures (gathered_behind _ _ _ _ _ _ _ (codes " ") _ c.in_ok-put-2.ensures c.put-3.ensures))
