use Rattle.cat_search.proofs.KeyEnds.{first_of}
use Rattle.cat_search.proofs.ends.mark_key.Goals as goal

pub returns-in-Some : goal.returns-in-Some
returns-in-Some c = first_of c.args.order c.args.mark.now c.in-Some.mark c.key_in.result c.in-Some.is c.key_in.ensures
