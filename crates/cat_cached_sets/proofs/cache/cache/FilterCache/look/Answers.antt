use Rattle.std.specs.Map.{lookup}
use Rattle.std.proofs.Common.{map, option_map, ◌∙◌, ap, sym, refl}
use Rattle.std.specs.Arc.{arc_value}
use Rattle.cat_cached_sets.specs.cache.Cached.{cache_key_of, same_key}
use Rattle.cat_cached_sets.proofs.cache.Shown.{shown, lookup_shown, promoted_shown, copied_shown, kept_first}
use Rattle.cat_cached_sets.proofs.cache.cache.FilterCache.look.Goals as goal

pub returns : goal.returns
returns c =
    let key = cache_key_of c.args.key.now in
    let sets = c.self.inside.sets.entries in
    let now = ap (λ s. s.entries) c.promote.ensures.entries in
    rw (← c.self.view_is) (
      (refl, λ _. tt, ap (map (shown cache_key_of arc_value)) now ∙ sym (promoted_shown cache_key_of arc_value (same_key key) sets)),
      record {
        used = tt;
        value = copied_shown arc_value c.peek.result ∙ ap (option_map arc_value) (c.peek.ensures ∙ ap (lookup (λ k. same_key key (cache_key_of k))) now ∙ kept_first (λ k. same_key key (cache_key_of k)) sets)
            ∙ sym (lookup_shown cache_key_of arc_value (same_key key) sets);
      },
    )
