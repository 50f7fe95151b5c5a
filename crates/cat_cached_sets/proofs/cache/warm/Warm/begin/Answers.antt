use Rattle.std.proofs.Common.{◌∙◌, ap, arith}
use Rattle.cat_model.specs.View.{Segment}
use Rattle.cat_cached_sets.proofs.cache.warm.Warm.begin.Goals as goal

pub invariant_of-result : goal.invariant_of-result
invariant_of-result c = (c.number.ensures ∙ ap (λ (s : Segment). s.number) c.deref.ensures, omega arith)
