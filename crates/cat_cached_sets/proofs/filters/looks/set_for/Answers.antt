use Rattle.std.proofs.Common.{◌≡◌, ◌∙◌, ℕ, ap, option_map, subst}
use Rattle.std.specs.Prelude.{IfOk}
use Rattle.std.specs.Arc.{arc_value}
use Rattle.std.specs.Map.{lookup}
use Rattle.cat_model.specs.View.{Segment}
use Rattle.cat_query.specs.View.{query_of}
use Rattle.cat_cached_sets.specs.cache.Cached.{same_key, used}
use Rattle.cat_cached_sets.proofs.filters.looks.set_for.Goals as goal

pub returns-clause-set : goal.returns-clause-set
returns-clause-set c =
    subst (λ (n : ℕ). IfOk c.set_under.result (λ s. option_map arc_value s ≡ lookup (same_key (record { segment = n; query = query_of c.args.key.now.query })) c.args.cache.now))
    (c.number-key.ensures ∙ ap (λ (s : Segment). s.number) c.segment.ensures) c.set_under.ensures.set

pub returns-clause-used : goal.returns-clause-used
returns-clause-used c =
    c.set_under.ensures.used
    ∙ ap (λ (n : ℕ). used (record { segment = n; query = query_of c.args.key.now.query }) c.args.cache.now) (c.number-key.ensures ∙ ap (λ (s : Segment). s.number) c.segment.ensures)
