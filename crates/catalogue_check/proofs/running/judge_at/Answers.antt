use Rattle.std.proofs.Common.{Ok, Err, refl}
use Rattle.catalogue_check.proofs.running.judge_at.Goals as goal

pub returns-in-Ok : goal.returns-in-Ok
returns-in-Ok g c = (Ok c.in-Ok.folder, c.folder_at.new.self, c.in-Ok.ensures, c.judge.ensures)

pub returns-in-Err : goal.returns-in-Err
returns-in-Err g c = (Err c.in-Err.field-0, c.folder_at.new.self, c.in-Err.ensures, (refl, refl))
