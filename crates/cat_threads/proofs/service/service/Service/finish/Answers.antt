use Rattle.cat_threads.proofs.service.service.Service.finish.Goals as goal

pub returns : goal.returns
returns g c = c.into_ledger.ensures
