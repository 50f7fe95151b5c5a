use Rattle.std.proofs.Common.{◌∙◌, ◌-◌, refl}
use Rattle.cat_search.proofs.OrdinalBars.{outside}
use Rattle.cat_search.proofs.ordinal_bar.OrdinalBar.between.Goals as goal

pub returns-then-is_same-2-clause-within : goal.returns-then-is_same-2-clause-within
returns-then-is_same-2-clause-within c =
    outside c.args.ends c.args.dictionary.now
    (record { from = c.args.self.from; before = c.args.self.before; missing = c.args.ends.missing; low = c.args.self.low; high = c.args.self.high; lookups = c.args.self.lookups }) refl
    (c.is_same.ensures c.if-is_same.true ∙ c.keyword_of-low.ensures) (c.is_same-then-is_same.ensures c.if-is_same-2.true ∙ c.keyword_of-high.ensures) (record { below = c.requires.below; above = c.requires.above })

pub returns-clause-within : goal.returns-clause-within
returns-clause-within c =
    outside c.args.ends c.args.dictionary.now
    (record { from = c.from_end.result; before = c.before_end.result; missing = c.args.ends.missing; low = c.keyword_of-low.result; high = c.keyword_of-high.result; lookups = c.args.self.lookups - 1 })
    refl c.keyword_of-low.ensures c.keyword_of-high.ensures (record { below = c.from_end.ensures; above = c.before_end.ensures })
