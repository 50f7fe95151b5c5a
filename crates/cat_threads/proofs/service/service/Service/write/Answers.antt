use Rattle.cat_threads.proofs.service.service.Service.write.Goals as goal

pub returns-clause-seen : goal.returns-clause-seen
returns-clause-seen g c = c.write.ensures.seen

pub returns-clause-wrote : goal.returns-clause-wrote
returns-clause-wrote g c = assumption

pub returns-clause-idle : goal.returns-clause-idle
returns-clause-idle g c = c.write.ensures.idle

pub returns-clause-kind : goal.returns-clause-kind
returns-clause-kind g c = c.write.ensures.kind

pub returns-clause-refusal : goal.returns-clause-refusal
returns-clause-refusal g c = c.write.ensures.refusal
