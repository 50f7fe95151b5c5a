use Rattle.cat_query.proofs.Cuts.{marks_taken}
use Rattle.cat_query.proofs.scanning.behind_all.Goals as goal

pub returns : goal.returns
returns c = marks_taken c.args.mark.now c.args.text.now c.strip_prefix.result c.strip_prefix.ensures.cases
