-- What segments the sets are of.
use Rattle.std.specs.Prelude.{◌≡◌, ℕ, ◌<◌, List, map, All, IfSome}
use Rattle.cat_model.specs.View.{Segment, row_matches, AgreesWith}
use Rattle.cat_cached_sets.specs.cache.Cached.{CachedSet}
use Rattle.cat_cached_sets.specs.filters.Filters.{Filters}

-- where the set stands under the number of the segment, it has the rows of it that its query matches
abbrev pub HasRowsOf : Segment → CachedSet → Type 0
HasRowsOf s e = e.0.segment ≡ s.number → e.1 ≡ map (row_matches e.0.query) s.rows

-- each set that stands under the number of the segment has the rows of it that its query matches, and a set in the making over
-- one of this number is over it
pub record Knows (f : Filters) (s : Segment) : Type 0 where
  pub cached : All (HasRowsOf s) f.cached
  pub warming : IfSome f.warming (λ w. w.segment.number ≡ s.number → w.segment ≡ s)

-- the numbers of all sets are below this
pub record IsBelow (n : ℕ) (f : Filters) : Type 0 where
  pub cached : All (λ e. e.0.segment < n) f.cached
  pub warming : IfSome f.warming (λ w. w.segment.number < n)

-- whatever segment was known is
abbrev pub Remembers : Filters → Filters → Type 0
Remembers old new = (s : Segment) → Knows old s → Knows new s

-- whatever segment was known is, if none of these is another of its number
abbrev pub FiltersRemember : List Segment → Filters → Filters → Type 0
FiltersRemember segments old new = (s : Segment) → All (AgreesWith s) segments → Knows old s → Knows new s

-- numbers stay below what they were below
abbrev pub RemembersBelow : Filters → Filters → Type 0
RemembersBelow old new = (n : ℕ) → IsBelow n old → IsBelow n new

-- numbers stay below what they were below, if those of these are too
abbrev pub FiltersRememberBelow : List Segment → Filters → Filters → Type 0
FiltersRememberBelow segments old new = (n : ℕ) → All (λ s. s.number < n) segments → IsBelow n old → IsBelow n new
