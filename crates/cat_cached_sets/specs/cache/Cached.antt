-- The cache as a list of keys with their sets, the last used first.
use Rattle.std.specs.Prelude.{ℕ, Bool, ◌&&◌, ◌==◌, List, ◌∷◌, take}
use Rattle.std.specs.Map.{remove_entry}
use Rattle.cat_model.specs.Query as model
use Rattle.cat_query.specs.Same.{same_query}
use Rattle.cat_query.specs.View.{query_of}
use Rattle.lru.specs.LruCache.{promoted}
use Rattle.cat_base.specs.declared.numbers.TheConstants as base
use Rattle.cat_cached_sets.specs.declared.cache.key.Key as code

-- a segment, by its number, and a query
pub record CacheKey : Type 0 where
  pub segment : ℕ
  pub query : model.Query

-- the segment and the query that a key names
abbrev pub cache_key_of : code.Key → CacheKey
cache_key_of k = record { segment = k.segment; query = query_of k.query }

-- the numbers are equal, and the queries are one tree
abbrev pub same_key : CacheKey → CacheKey → Bool
same_key a b = (a.segment == b.segment) && same_query a.query b.query

-- a set under its key
abbrev pub CachedSet : Type 0
CachedSet = CacheKey × List Bool

-- the key was used: the set that stands under it, if one does, comes first
abbrev pub used : CacheKey → List CachedSet → List CachedSet
used key entries = promoted (same_key key) entries

-- how many sets are kept
abbrev pub most_sets : ℕ
most_sets = base.MAX_CACHED_SETS

-- the set was put under the key: it comes first, none else stands under the key, and the last goes where there are too many
abbrev pub with_stored_set : CacheKey → List Bool → List CachedSet → List CachedSet
with_stored_set key rows entries = take most_sets ((key, rows) ∷ remove_entry (same_key key) entries)
