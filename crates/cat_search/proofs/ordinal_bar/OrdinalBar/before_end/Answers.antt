use Rattle.std.proofs.Common.{subst}
use Rattle.cat_search.specs.OrdinalBars.{AreAbove}
use Rattle.cat_search.proofs.ordinal_bar.OrdinalBar.before_end.Goals as goal

pub returns-then-is_same : goal.returns-then-is_same
returns-then-is_same c = subst (λ high. AreAbove high c.args.dictionary.now c.args.self.before) (c.is_same.ensures c.if-is_same.true) c.requires.above
