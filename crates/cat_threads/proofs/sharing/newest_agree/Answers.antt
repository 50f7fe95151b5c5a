use Rattle.cat_threads.proofs.sharing.Agreeing.{newest_agree}
use Rattle.cat_threads.proofs.sharing.newest_agree.Goals as goal

pub returns : goal.returns
returns c = newest_agree
