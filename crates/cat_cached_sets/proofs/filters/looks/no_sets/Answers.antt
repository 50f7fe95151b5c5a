use Rattle.std.proofs.Common.{◌≡◌, ◌∙◌, ◌∷◌, ◌++◌, [], ℕ, None, replicate, ap, subst, arith}
use Rattle.std.proofs.lemmas.List.{replicate_more}
use Rattle.cat_cached_sets.proofs.filters.looks.no_sets.Goals as goal

pub loop-preserved : goal.loop-preserved
loop-preserved c = c.in_ok-push.ensures.items ∙ ap (λ l. l ++ None ∷ []) c.loop.invariant ∙ replicate_more c.loop.counter None

pub returns : goal.returns
returns c =
    let whole : c.loop.counter ≡ c.args.count = omega arith in
    subst (λ (n : ℕ). c.loop.sets.items ≡ replicate n None) whole c.loop.invariant
