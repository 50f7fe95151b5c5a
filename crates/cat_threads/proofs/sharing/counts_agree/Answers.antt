use Rattle.cat_threads.proofs.sharing.Agreeing.{counts_agree}
use Rattle.cat_threads.proofs.sharing.counts_agree.Goals as goal

pub returns : goal.returns
returns c = counts_agree
