-- The cached sets, the queries that were noted, and the set in the making.
use Rattle.std.specs.Prelude.{ℕ, ◌-◌, Bool, not, List, [], ◌∷◌, ◌++◌, length, drop, map, cond, Option, Some, None, is_some}
use Rattle.std.specs.Option.{option_map_or}
use Rattle.std.specs.List.{find, flat_map, fold, list_any}
use Rattle.std.specs.Map.{lookup}
use Rattle.cat_base.specs.declared.numbers.TheConstants as base
use Rattle.cat_model.specs.Query as model
use Rattle.cat_model.specs.View.{Leaf, Segment, segments_of}
use Rattle.cat_query.specs.Same.{same_query}
use Rattle.cat_cached_sets.specs.cache.Cached.{CachedSet, CacheKey, same_key, used}
use Rattle.cat_cached_sets.specs.cache.Warmed.{Warm}

-- the sets with their keys, the last used first; the noted queries, the oldest first; the set in the making
pub record Filters : Type 0 where
  pub cached : List CachedSet
  pub noted : List model.Query
  pub warming : Option Warm

-- ---- noted queries

-- how many noted queries are kept
abbrev pub most_noted : ℕ
most_noted = base.MAX_NOTED_QUERIES

-- the last n, or all where there are fewer
abbrev pub newest : {A : Type 0} → ℕ → List A → List A
newest n xs = drop (length xs - n) xs

-- the query was noted: one that is noted already keeps its place, and another comes last, with the oldest gone where there are too many
abbrev pub noted_with : model.Query → List model.Query → List model.Query
noted_with q noted = cond (list_any (λ p. same_query p q) noted) noted (newest most_noted (noted ++ q ∷ []))

-- ---- sets that are at hand

-- what the set of the query in the segment stands under
abbrev pub cache_key_in : model.Query → Segment → CacheKey
cache_key_in q s = record { segment = s.number; query = q }

-- the set that stands there, if one does
abbrev pub set_in : List CachedSet → model.Query → Segment → Option (List Bool)
set_in cached q s = lookup (same_key (cache_key_in q s)) cached

-- the sets of the query in these segments were used, one after the other
abbrev pub sets_used_in : model.Query → List Segment → List CachedSet → List CachedSet
sets_used_in q segments cached = fold (λ entries s. used (cache_key_in q s) entries) cached segments

-- ---- the set in the making

-- a query, and a segment
abbrev pub QueriedSegment : Type 0
QueriedSegment = model.Query × Segment

-- each query with each segment: by queries in order, and for each by segments in order
abbrev pub pairs : List model.Query → List Segment → List QueriedSegment
pairs qs segments = flat_map (λ q. map (λ s. (q, s)) segments) qs

-- no set of the query stands for the segment
abbrev pub is_missing : List CachedSet → QueriedSegment → Bool
is_missing cached p = not (is_some (set_in cached p.0 p.1))

-- the first pair of a noted query and one of these segments whose set is missing
abbrev pub first_missing : Filters → List Segment → Option QueriedSegment
first_missing f segments = find (is_missing f.cached) (pairs f.noted segments)

-- its set, of which no row is passed
abbrev pub warm_begun : QueriedSegment → Warm
warm_begun p = record { segment = p.1; query = p.0; passed = 0 }

-- the set in the making was given up where the number of its segment passes the test
abbrev pub filters_without : (ℕ → Bool) → Filters → Filters
filters_without test f = record f { warming = option_map_or (λ w. cond (test w.segment.number) None (Some w)) f.warming None }
