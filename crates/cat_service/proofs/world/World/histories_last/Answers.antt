use Rattle.cat_service.proofs.Histories.{lines_are_calls}
use Rattle.cat_service.proofs.world.World.histories_last.Goals as goal

pub returns-clause-lines : goal.returns-clause-lines
returns-clause-lines g c = lines_are_calls g.D.Holder.bytes g.D.Holder.may_leave c.args.self.now

pub returns-clause-tried : goal.returns-clause-tried
returns-clause-tried g c = rw (← c.self.view_is) c.histories_last.ensures.tried

pub returns-clause-taken : goal.returns-clause-taken
returns-clause-taken g c = rw (← c.self.view_is) c.histories_last.ensures.taken

pub returns-clause-found : goal.returns-clause-found
returns-clause-found g c = rw (← c.self.view_is) c.histories_last.ensures.found
