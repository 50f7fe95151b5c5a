use Rattle.std.proofs.Common.{Err, ap}
use Rattle.catalogue.proofs.running.serve_unlocked.Goals as goal

pub returns-in-InUse : goal.returns-in-InUse
returns-in-InUse g c = rw c.in-InUse.is (c.serve_nowhere.result, c.serve_nowhere.ensures, ap Err c.in_use.ensures)

pub returns-in-Device : goal.returns-in-Device
returns-in-Device g c =
    rw c.in-Device.is (c.serve_nowhere-in-Device.result, c.serve_nowhere-in-Device.ensures, c.told.ensures)

pub returns-in-Memory : goal.returns-in-Memory
returns-in-Memory g c = rw c.in-Memory.is (Err c.refuse_for_memory.result, c.refuse_for_memory.ensures, c.told-in-Memory.ensures)
