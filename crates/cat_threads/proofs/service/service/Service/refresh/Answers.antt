use Rattle.cat_threads.proofs.service.service.Service.refresh.Goals as goal

pub returns-clause-seen : goal.returns-clause-seen
returns-clause-seen g c = c.refresh.ensures.seen

pub returns-clause-idle : goal.returns-clause-idle
returns-clause-idle g c = c.refresh.ensures.idle

pub returns-clause-token : goal.returns-clause-token
returns-clause-token g c = assumption

pub returns-clause-refusal : goal.returns-clause-refusal
returns-clause-refusal g c = c.refresh.ensures.refusal
