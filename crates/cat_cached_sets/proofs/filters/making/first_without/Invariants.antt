use Rattle.std.proofs.Common.{◌≡◌, drop}
use Rattle.std.specs.List.{find}
use Rattle.cat_query.specs.View.{query_of}
use Rattle.cat_cached_sets.specs.filters.Filters.{is_missing}
use Rattle.cat_cached_sets.proofs.filters.making.first_without.Given as goal
use Rattle.cat_model.specs.View.{segments_of}

abbrev pub invariant-loop-leaf : goal.invariant-loop-leaf
invariant-loop-leaf l = record {
  query : query_of l.key.query ≡ query_of l.fn.key.query;
  first : find (λ s. is_missing l.cache (query_of l.fn.key.query, s)) (segments_of l.leaves)
      ≡ find (λ s. is_missing l.cache (query_of l.fn.key.query, s)) (segments_of (drop l.leaf-index l.leaves));
}
