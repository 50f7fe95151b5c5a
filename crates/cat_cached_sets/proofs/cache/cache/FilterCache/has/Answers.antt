use Rattle.std.proofs.Common.{◌∙◌, is_some, ap, sym}
use Rattle.std.specs.Arc.{arc_value}
use Rattle.std.specs.Map.{lookup}
use Rattle.cat_cached_sets.specs.cache.Cached.{cache_key_of, same_key}
use Rattle.cat_cached_sets.proofs.cache.Shown.{lookup_shown, still_some}
use Rattle.cat_cached_sets.proofs.cache.cache.FilterCache.has.Goals as goal

pub returns : goal.returns
returns c =
    let key = cache_key_of c.args.key.now in
    let sets = c.self.inside.sets.entries in
    rw (← c.self.view_is) (c.contains.ensures
    ∙ sym (still_some arc_value (lookup (λ k. same_key key (cache_key_of k)) sets))
    ∙ ap is_some (sym (lookup_shown cache_key_of arc_value (same_key key) sets)))
