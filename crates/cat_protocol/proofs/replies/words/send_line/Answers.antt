use Rattle.cat_protocol.proofs.sending.Written.{gathered_sent, sent_at_fault, unwaited}
use Rattle.cat_protocol.proofs.replies.words.send_line.Goals as goal

pub returns-in_err-put_line : goal.returns-in_err-put_line
returns-in_err-put_line g c = sent_at_fault _ c.from_residual.ensures.0 (unwaited _ _ c.new-line.ensures c.in_err-put_line.ensures)

pub returns : goal.returns
returns g c = gathered_sent _ _ _ _ _ _ _ c.new-line.ensures c.in_ok-put_line.ensures c.finish.ensures
