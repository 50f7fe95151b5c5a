use Rattle.cat_threads.proofs.sharing.Agreeing.{recorded_agree}
use Rattle.cat_threads.proofs.sharing.recorded_agree.Goals as goal

pub returns : goal.returns
returns c = recorded_agree
