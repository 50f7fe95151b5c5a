use Rattle.cat_threads.proofs.service.service.Service.close.Goals as goal

pub returns-clause-released : goal.returns-clause-released
returns-clause-released g c = rw (← c.me.view_is) c.close.ensures.released

pub returns-clause-right : goal.returns-clause-right
returns-clause-right g c = rw (← c.me.view_is) c.close.ensures.right

pub returns-clause-back : goal.returns-clause-back
returns-clause-back g c = c.close.ensures.back
