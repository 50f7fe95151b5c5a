use Rattle.cat_service.proofs.serving.device_left.Goals as goal

pub returns-in-Open-clause-lasts : goal.returns-in-Open-clause-lasts
returns-in-Open-clause-lasts g c = rw c.in-Open.is c.newest_lasts.ensures.lasts

pub returns-in-Open-clause-outlives : goal.returns-in-Open-clause-outlives
returns-in-Open-clause-outlives g c = rw c.in-Open.is (c.histories_last.ensures.tried, c.histories_last.ensures.lost, c.histories_last.ensures.taken)

pub returns-in-Open-clause-device : goal.returns-in-Open-clause-device
returns-in-Open-clause-device g c = rw c.in-Open.is c.end.ensures

pub returns-in-Waiting-clause-device : goal.returns-in-Waiting-clause-device
returns-in-Waiting-clause-device g c = rw c.in-Waiting.is

pub returns-in-Waiting-clause-lasts : goal.returns-in-Waiting-clause-lasts
returns-in-Waiting-clause-lasts g c = rw c.in-Waiting.is tt

pub returns-in-Waiting-clause-outlives : goal.returns-in-Waiting-clause-outlives
returns-in-Waiting-clause-outlives g c = rw c.in-Waiting.is tt

pub returns-in-Refused-clause-device : goal.returns-in-Refused-clause-device
returns-in-Refused-clause-device g c = rw c.in-Refused.is

pub returns-in-Refused-clause-lasts : goal.returns-in-Refused-clause-lasts
returns-in-Refused-clause-lasts g c = rw c.in-Refused.is tt

pub returns-in-Refused-clause-outlives : goal.returns-in-Refused-clause-outlives
returns-in-Refused-clause-outlives g c = rw c.in-Refused.is tt
