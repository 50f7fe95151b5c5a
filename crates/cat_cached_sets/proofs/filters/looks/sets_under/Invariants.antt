use Rattle.std.proofs.Common.{◌≡◌, map, option_map, take}
use Rattle.std.specs.Prelude.{IfOk}
use Rattle.std.specs.Arc.{arc_value}
use Rattle.cat_query.specs.View.{query_of}
use Rattle.cat_cached_sets.specs.filters.Filters.{set_in, sets_used_in}
use Rattle.cat_cached_sets.proofs.filters.looks.sets_under.Given as goal
use Rattle.cat_model.specs.View.{segments_of}

abbrev pub invariant-loop-leaf : goal.invariant-loop-leaf
invariant-loop-leaf l = record {
  query : l.key.query ≡ l.fn.key.query;
  used : l.cache ≡ sets_used_in (query_of l.fn.key.query) (segments_of (take l.leaf-index l.leaves)) l.fn.cache;
  sets : IfOk l.sets (λ v. map (option_map arc_value) v.items ≡ map (set_in l.fn.cache (query_of l.fn.key.query)) (segments_of (take l.leaf-index l.leaves)));
}
