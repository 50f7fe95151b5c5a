use Rattle.std.proofs.Common.{refl, subst}
use Rattle.cat_cached_sets.specs.cache.Warmed.{IsWarmStep}
use Rattle.cat_cached_sets.proofs.filters.making.pass_on.Goals as goal

pub returns-in-Passed-clause-ok : goal.returns-in-Passed-clause-ok
returns-in-Passed-clause-ok c =
    let passed = subst (IsWarmStep c.args.warm.now c.step.new.self) c.in-Passed.is c.in_ok-rows.ensures.ok in
    record { rows = passed.rows; left = passed.left; cached = refl; warm = passed.new }
