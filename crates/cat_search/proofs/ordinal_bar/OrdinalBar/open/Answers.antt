use Rattle.cat_search.proofs.OrdinalBars.{open_ordinals, open_lets_in}
use Rattle.cat_search.proofs.ordinal_bar.OrdinalBar.open.Goals as goal

pub returns-clause-ordinals : goal.returns-clause-ordinals
returns-clause-ordinals c = open_ordinals c.args.dictionary.now c.len.result c.args.lookups c.len.ensures

pub returns-clause-open : goal.returns-clause-open
returns-clause-open c = open_lets_in c.args.dictionary.now c.len.result c.args.lookups c.len.ensures
