use Rattle.cat_threads.proofs.service.service.Service.prepare_if_free.Goals as goal

pub returns-in-Some-clause-seen : goal.returns-in-Some-clause-seen
returns-in-Some-clause-seen g c = c.prepare.ensures.seen

pub returns-in-Some-clause-idle : goal.returns-in-Some-clause-idle
returns-in-Some-clause-idle g c = c.prepare.ensures.idle

pub returns-in-Some-clause-query : goal.returns-in-Some-clause-query
returns-in-Some-clause-query g c = c.prepare.ensures.query

pub returns-in-Some-clause-shown : goal.returns-in-Some-clause-shown
returns-in-Some-clause-shown g c = c.prepare.ensures.shown

pub returns-in-Some-clause-refusal : goal.returns-in-Some-clause-refusal
returns-in-Some-clause-refusal g c = c.prepare.ensures.refusal
