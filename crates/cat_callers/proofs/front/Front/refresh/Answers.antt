use Rattle.cat_callers.specs.Told.{ToldRefresh}
use Rattle.cat_callers.proofs.front.Front.refresh.Goals as goal

pub returns-in-Ok-clause-told : goal.returns-in-Ok-clause-told
returns-in-Ok-clause-told g c = ToldRefresh.recorded c.in-Ok.token c.in-Ok.ensures.token

pub returns-in-Err-clause-told : goal.returns-in-Err-clause-told
returns-in-Err-clause-told g c = ToldRefresh.refused c.in-Err.refusal c.in-Err.ensures.refusal

pub returns-in-Ok-clause-seen : goal.returns-in-Ok-clause-seen
returns-in-Ok-clause-seen g c = c.refresh.ensures.seen

pub returns-in-Ok-clause-idle : goal.returns-in-Ok-clause-idle
returns-in-Ok-clause-idle g c = c.refresh.ensures.idle

pub returns-in-Err-clause-seen : goal.returns-in-Err-clause-seen
returns-in-Err-clause-seen g c = c.refresh.ensures.seen

pub returns-in-Err-clause-idle : goal.returns-in-Err-clause-idle
returns-in-Err-clause-idle g c = c.refresh.ensures.idle
