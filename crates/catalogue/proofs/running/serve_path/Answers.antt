use Rattle.std.proofs.Common.{Ok, Err}
use Rattle.catalogue.proofs.running.serve_path.Goals as goal

pub returns-in-Ok : goal.returns-in-Ok
returns-in-Ok g c = (Ok c.in-Ok.lock, c.lock.new.self, c.in-Ok.ensures, c.serve_locked.ensures)

pub returns-in-Err : goal.returns-in-Err
returns-in-Err g c = (Err c.in-Err.refusal, c.lock.new.self, c.in-Err.ensures, c.serve_unlocked.ensures)
