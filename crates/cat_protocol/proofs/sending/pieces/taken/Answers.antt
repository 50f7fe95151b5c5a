use Rattle.std.proofs.Common.{sym, ◌∙◌}
use Rattle.cat_protocol.proofs.sending.Taken.{taken_at_fault}
use Rattle.cat_protocol.proofs.sending.pieces.taken.Goals as goal

pub returns-in-Interrupted : goal.returns-in-Interrupted
returns-in-Interrupted c = rw (c.in-Err.is, sym c.kind.ensures ∙ c.in-Interrupted.is)

pub returns-in_default : goal.returns-in_default
returns-in_default c = rw (c.in-Err.is, sym c.kind.ensures) (taken_at_fault c.kind.result c.in_default.not-Interrupted)
