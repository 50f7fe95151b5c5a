use Rattle.std.proofs.Common.{codes}
use Rattle.cat_protocol.proofs.sending.Written.{gathered_at_fault, gathered_before, gathered_behind}
use Rattle.cat_protocol.proofs.replies.words.put_word.Goals as goal

pub returns-in_err-put-in-Marked : goal.returns-in_err-put-in-Marked
returns-in_err-put-in-Marked g c =
    rw c.in-Marked.is
    (gathered_at_fault _ _ _ _ c.from_residual.ensures.0 (gathered_before _ _ c.in-Marked.bytes.now c.in_err-put-in-Marked.ensures))

pub returns-in_ok-put-in-Marked : goal.returns-in_ok-put-in-Marked
returns-in_ok-put-in-Marked g c =
    rw c.in-Marked.is
    (gathered_behind _ _ _ _ _ _ _ (codes "=") _ c.in_ok-put-in-Marked.ensures c.put-in-Marked-2.ensures)

pub returns-in-Number : goal.returns-in-Number
returns-in-Number g c = rw c.in-Number.is c.put_number.ensures

pub returns-in-Plain : goal.returns-in-Plain
returns-in-Plain g c = rw c.in-Plain.is c.put.ensures
