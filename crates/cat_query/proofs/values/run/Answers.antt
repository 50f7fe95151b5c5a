use Rattle.cat_query.proofs.Backslashes.{bare_stays}
use Rattle.cat_query.proofs.values.run.Goals as goal

pub returns-clause-plain : goal.returns-clause-plain
returns-clause-plain c = rw c.bare.ensures.front ((bare_stays c.args.text.now).0)

pub returns-clause-escaped : goal.returns-clause-escaped
returns-clause-escaped c = rw c.bare.ensures.front ((bare_stays c.args.text.now).1)
