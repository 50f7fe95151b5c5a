use Rattle.cat_threads.proofs.sharing.Agreeing.{still_agree}
use Rattle.cat_threads.proofs.sharing.still_agree.Goals as goal

pub returns : goal.returns
returns c = still_agree
