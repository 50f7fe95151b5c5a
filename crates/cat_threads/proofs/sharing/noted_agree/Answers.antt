use Rattle.cat_threads.proofs.sharing.Agreeing.{noted_agree}
use Rattle.cat_threads.proofs.sharing.noted_agree.Goals as goal

pub returns : goal.returns
returns c = noted_agree
