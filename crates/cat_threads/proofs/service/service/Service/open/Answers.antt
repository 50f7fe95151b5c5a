use Rattle.cat_threads.proofs.service.service.Service.open.Goals as goal

pub returns-clause-seen : goal.returns-clause-seen
returns-clause-seen g c = c.open.ensures.seen

pub returns-clause-idle : goal.returns-clause-idle
returns-clause-idle g c = c.open.ensures.idle

pub returns-clause-given : goal.returns-clause-given
returns-clause-given g c = c.open.ensures.given

pub returns-clause-gone : goal.returns-clause-gone
returns-clause-gone g c = assumption

pub returns-clause-refusal : goal.returns-clause-refusal
returns-clause-refusal g c = c.open.ensures.refusal
