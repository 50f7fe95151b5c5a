use Rattle.std.proofs.Common.{sym, ap, ◌∙◌}
use Rattle.std.specs.Ordering.{is_lt}
use Rattle.cat_search.proofs.Kept.{not_less_from_test}
use Rattle.cat_search.proofs.best.Best.is_beaten.Goals as goal

pub returns-in-Some : goal.returns-in-Some
returns-in-Some g c = λ t offered b.
    c.in-Some.ensures offered c.args.item.now (ap is_lt (sym c.cmp.ensures) ∙ not_less_from_test c.cmp.result c.is_ge.result c.is_ge.ensures t) b
