use Rattle.std.proofs.Common.{rules}
use Rattle.std.proofs.lemmas.Fn.{always_returns_same}
use Rattle.std.specs.Ordering.{is_lt}
use Rattle.cat_base.proofs.Rising.{rising_from_answer}
use Rattle.cat_base.proofs.order.rises.Goals as goal

pub returns : goal.returns
returns g c = rising_from_answer g.met.T.Ord.total c.args.items.now c.is_sorted_by.result (c.is_sorted_by.ensures.cases (λ x y. is_lt (g.T.Ord.cmp x y)) (always_returns_same _ _ _ (λ a r f' k. search rules)))
