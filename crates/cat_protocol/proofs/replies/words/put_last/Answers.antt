use Rattle.std.proofs.Common.{codes}
use Rattle.cat_protocol.proofs.sending.Written.{gathered_at_fault, gathered_before, gathered_behind}
use Rattle.cat_protocol.proofs.replies.words.put_last.Goals as goal

pub returns-in_err-put_behind_space : goal.returns-in_err-put_behind_space
returns-in_err-put_behind_space g c = gathered_at_fault _ _ _ _ c.from_residual.ensures.0 (gathered_before _ _ (codes "\n") c.in_err-put_behind_space.ensures)

pub returns : goal.returns
returns g c = gathered_behind _ _ _ _ _ _ _ _ (codes "\n") c.in_ok-put_behind_space.ensures c.end_line.ensures
