use Rattle.std.proofs.Common.{◌∙◌, map, ap}
use Rattle.std.specs.Arc.{arc_value}
use Rattle.cat_cached_sets.specs.cache.Cached.{cache_key_of, same_key}
use Rattle.cat_cached_sets.proofs.cache.Shown.{shown, put_shown, keys_decided}
use Rattle.cat_cached_sets.proofs.cache.cache.FilterCache.store.Goals as goal

pub returns-in-Ok-clause-ok : goal.returns-in-Ok-clause-ok
returns-in-Ok-clause-ok c =
    rw (← c.self.view_is) (ap (λ s. map (shown cache_key_of arc_value) s.entries) c.in-Ok.ensures.entries
    ∙ put_shown cache_key_of arc_value same_key keys_decided 63 c.self.inside.sets c.args.key c.args.rows c.self.invariant c.len.ensures.valid.1)
