use Rattle.cat_search.proofs.KeyEnds.{last_of}
use Rattle.cat_search.proofs.ends.last_key.Goals as goal

pub returns-in-Some : goal.returns-in-Some
returns-in-Some c = last_of c.args.order c.args.best.now c.in-Some.last.now c.key_in.result c.in-Some.ensures c.key_in.ensures
