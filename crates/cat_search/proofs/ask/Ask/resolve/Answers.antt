use Rattle.std.proofs.Common.{refl}
use Rattle.cat_search.proofs.ask.Ask.resolve.Goals as goal

pub returns-clause-count : goal.returns-clause-count
returns-clause-count c = (refl, c.if-self.false)
