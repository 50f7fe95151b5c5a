use Rattle.cat_threads.proofs.sharing.Agreeing.{fresh_agree}
use Rattle.cat_threads.proofs.sharing.fresh_agree.Goals as goal

pub returns : goal.returns
returns c = fresh_agree
