use Rattle.std.proofs.Common.{◌≡◌, drop}
use Rattle.cat_model.specs.View.{segments_of}
use Rattle.cat_cached_sets.proofs.filters.Begun.{first_from}
use Rattle.cat_cached_sets.proofs.filters.making.next_begun.Given as goal

abbrev pub invariant-loop-query : goal.invariant-loop-query
invariant-loop-query l = first_from l.cache (segments_of l.leaves) l.noted ≡ first_from l.cache (segments_of l.leaves) (drop l.query-index l.noted)
