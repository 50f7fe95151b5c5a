use Rattle.cat_threads.proofs.sharing.Sharing.{fresh_share}
use Rattle.cat_threads.proofs.sharing.fresh_share.Goals as goal

pub returns : goal.returns
returns c = fresh_share
