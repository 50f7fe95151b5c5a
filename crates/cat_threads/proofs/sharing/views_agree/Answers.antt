use Rattle.cat_threads.proofs.sharing.Agreeing.{views_agree}
use Rattle.cat_threads.proofs.sharing.views_agree.Goals as goal

pub returns : goal.returns
returns c = views_agree
