-- What a step of warming makes of the cached sets and the set in the making.
use Rattle.std.specs.Prelude.{◌≡◌, ◌⊎◌, ℕ, ◌+◌, ◌<◌, ◌≤◌, List, length, map, Option, Some, None, IsSome, option_map}
use Rattle.cat_model.specs.View.{Segment, row_matches}
use Rattle.cat_cached_sets.specs.cache.Cached.{CachedSet, with_stored_set}
use Rattle.cat_cached_sets.specs.cache.Warmed.{Warm}
use Rattle.cat_model.specs.Limits.{step_limit}
use Rattle.cat_cached_sets.specs.filters.Filters.{Filters, warm_begun, first_missing, cache_key_in}
use Rattle.cat_cached_sets.specs.declared.filters.news.WarmNews.{WarmNews}

-- a step reaches the last row
abbrev pub IsLast : Warm → Type 0
IsLast w = length w.segment.rows ≤ w.passed + step_limit

-- the set with so many of its rows passed
abbrev pub passed_to : ℕ → Warm → Warm
passed_to n w = record w { passed = n }

-- the set with all of its rows passed
abbrev pub passed_all : Warm → Warm
passed_all w = passed_to (length w.segment.rows) w

-- the sets with that of the set in the making put under its key
abbrev pub with_made : Warm → List CachedSet → List CachedSet
with_made w cached = with_stored_set (cache_key_in w.query w.segment) (map (row_matches w.query) w.segment.rows) cached

-- a set is in the making, and a step passes 256 rows of it, which aren't the last
pub record IsWarmed (old new : Filters) (n : ℕ) : Type 0 where
  pub warm : Warm
  pub making : old.warming ≡ Some warm
  pub rows : n ≡ warm.passed + step_limit
  pub left : n < length warm.segment.rows
  pub after : new ≡ record old { warming = Some (passed_to n warm) }

-- a set is in the making, and a step passes its last rows and stores it
pub record IsSetStored (old new : Filters) : Type 0 where
  pub warm : Warm
  pub making : old.warming ≡ Some warm
  pub last : IsLast warm
  pub after : new ≡ record { cached = with_made warm old.cached; noted = old.noted; warming = None }

-- Without a set in the making that of the first missing pair is begun, if there is one. Else 256 rows more are passed where that
-- leaves some, and the set is stored where it leaves none.
abbrev pub IsFiltersStep : Filters → List Segment → Filters → WarmNews → Type 0
IsFiltersStep old segments new WarmNews.Idle = record {
  free : old.warming ≡ None;
  all : first_missing old segments ≡ None;
  after : new ≡ old;
}
IsFiltersStep old segments new WarmNews.Begun = record {
  free : old.warming ≡ None;
  some : IsSome (first_missing old segments);
  after : new ≡ record old { warming = option_map warm_begun (first_missing old segments) };
}
IsFiltersStep old segments new (WarmNews.Warmed rows) = IsWarmed old new rows
IsFiltersStep old segments new WarmNews.Stored = IsSetStored old new

-- a set is in the making, and its last rows were passed without its being stored
pub record IsPassed (old new : Filters) : Type 0 where
  pub warm : Warm
  pub making : old.warming ≡ Some warm
  pub last : IsLast warm
  pub after : new ≡ record old { warming = Some (passed_all warm) }

-- what a step leaves that found no memory
abbrev pub IsLeftByStep : Filters → Filters → Type 0
IsLeftByStep old new = (new ≡ old) ⊎ IsPassed old new

-- ---- the same of a cache and a set in the making

-- a step of the set, by how many rows are passed in all, or none once it is stored
abbrev pub IsMade : List CachedSet → Warm → List CachedSet → Warm → Option ℕ → Type 0
IsMade es w es' w' (Some n) = record {
  rows : n ≡ w.passed + step_limit;
  left : n < length w.segment.rows;
  cached : es' ≡ es;
  warm : w' ≡ passed_to n w;
}
IsMade es w es' w' None = record {
  last : IsLast w;
  cached : es' ≡ with_made w es;
}

-- what is left of both without memory
abbrev pub IsMadeInPart : List CachedSet → Warm → List CachedSet → Warm → Type 0
IsMadeInPart es w es' w' = (es' ≡ es) × ((w' ≡ w) ⊎ IsLast w × (w' ≡ passed_all w))
