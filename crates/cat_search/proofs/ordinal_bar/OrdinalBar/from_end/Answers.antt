use Rattle.std.proofs.Common.{subst}
use Rattle.cat_search.specs.OrdinalBars.{AreTextsBelow}
use Rattle.cat_search.proofs.ordinal_bar.OrdinalBar.from_end.Goals as goal

pub returns-then-is_same : goal.returns-then-is_same
returns-then-is_same c = subst (λ low. AreTextsBelow low c.args.dictionary.now c.args.self.from) (c.is_same.ensures c.if-is_same.true) c.requires.below
