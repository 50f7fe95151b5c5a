use Rattle.cat_protocol.proofs.serving.Came.{comes_so}
use Rattle.cat_protocol.proofs.serving.serving.read_some.Goals as goal

pub returns : goal.returns
returns g c = rw c.brought.ensures (comes_so _ _ c.read.new.buf c.read.result (rw c.read.auto.buf c.requires) c.read.ensures.bound c.read.ensures.bytes)
