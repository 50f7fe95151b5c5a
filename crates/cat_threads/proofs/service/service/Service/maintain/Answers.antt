use Rattle.cat_threads.proofs.service.service.Service.maintain.Goals as goal

pub returns-clause-chore : goal.returns-clause-chore
returns-clause-chore g c = c.maintain.ensures.chore

pub returns-clause-answered : goal.returns-clause-answered
returns-clause-answered g c = (_, c.maintain.ensures.answered)
