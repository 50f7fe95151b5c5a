use Rattle.cat_search.specs.OrdinalBars.{keyword_key}
use Rattle.cat_search.proofs.ordinal_bar.OrdinalBar.renewed.Goals as goal

pub returns-clause-bar : goal.returns-clause-bar
returns-clause-bar c = λ i within e. c.of.ensures (keyword_key c.args.dictionary.now i) (c.between.ensures.within i within e)
