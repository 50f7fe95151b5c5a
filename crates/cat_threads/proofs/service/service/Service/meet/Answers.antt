use Rattle.cat_threads.proofs.service.service.Service.meet.Goals as goal

pub returns-clause-seen : goal.returns-clause-seen
returns-clause-seen g c = c.meet.ensures.seen

pub returns-clause-idle : goal.returns-clause-idle
returns-clause-idle g c = c.meet.ensures.idle

pub returns-clause-before : goal.returns-clause-before
returns-clause-before g c = c.meet.ensures.before

pub returns-clause-met : goal.returns-clause-met
returns-clause-met g c = assumption
