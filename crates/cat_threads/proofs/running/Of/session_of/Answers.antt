use Rattle.cat_threads.proofs.running.Of.session_of.Goals as goal

pub returns : goal.returns
returns g c = assumption
