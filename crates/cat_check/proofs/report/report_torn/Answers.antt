use Rattle.cat_check.proofs.Agreeing.{lost_if_torn}
use Rattle.cat_check.proofs.report.report_torn.Goals as goal

pub returns-clause-judged : goal.returns-clause-judged
returns-clause-judged g c = lost_if_torn (g.S.Holder.bytes c.args.shelf.now) c.args.generation c.requires
