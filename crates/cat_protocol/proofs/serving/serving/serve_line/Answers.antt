use Rattle.std.proofs.Common.{sym}
use Rattle.cat_protocol.proofs.serving.serving.serve_line.Goals as goal

pub returns-in-Waiting : goal.returns-in-Waiting
returns-in-Waiting g c = rw c.in-Waiting.is (rw (sym c.if_short.ensures) c.open_machine.ensures)

pub returns-in-Open : goal.returns-in-Open
returns-in-Open g c = rw c.in-Open.is c.answer_line-ended.ensures
