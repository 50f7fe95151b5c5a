use Rattle.cat_threads.proofs.service.service.Service.turn.Goals as goal

pub returns : goal.returns
returns g c = c.maintain.ensures.chore
