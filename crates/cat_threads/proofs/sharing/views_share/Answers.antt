use Rattle.cat_threads.proofs.sharing.Sharing.{views_share}
use Rattle.cat_threads.proofs.sharing.views_share.Goals as goal

pub returns : goal.returns
returns c = views_share
