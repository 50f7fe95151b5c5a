use Rattle.cat_threads.proofs.sharing.Agreeing.{pruned_agree}
use Rattle.cat_threads.proofs.sharing.pruned_agree.Goals as goal

pub returns : goal.returns
returns c = pruned_agree
