use Rattle.std.proofs.Common.{Ok, Err, refl}
use Rattle.catalogue_check.proofs.running.drop_in.Goals as goal

pub returns-in-Ok : goal.returns-in-Ok
returns-in-Ok g c = (
  c.drop_torn.new.device,
  Ok c.in-Ok.standing,
  c.in-Ok.ensures.only,
  (c.in-Ok.ensures.ok, c.in-Ok.ensures.gone, (c.show_standing.new.self, c.show_standing.ensures, c.judge.ensures)),
)

pub returns-in-Err : goal.returns-in-Err
returns-in-Err g c = (c.drop_torn.new.device, Err c.in-Err.refusal, c.in-Err.ensures.only, (refl, c.in-Err.ensures.device, c.leave.ensures))
