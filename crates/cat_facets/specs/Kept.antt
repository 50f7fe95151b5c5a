-- The states that are kept, the last used last, and what segments they are of.
use Rattle.std.specs.Prelude.{◌&&◌, ℕ, ◌-◌, ◌<◌, Bool, List, [], ◌∷◌, ◌++◌, length, drop, map, nat_eq, All}
use Rattle.std.specs.Cmp.Lexicographic.{pointwise}
use Rattle.std.specs.List.{position, remove}
use Rattle.std.specs.Option.{option_map_or}
use Rattle.cat_model.specs.Text.{Text, same_text}
use Rattle.cat_model.specs.View.{Segment, AgreesWith}
use Rattle.cat_facets.specs.States.{ReaderState}
use Rattle.cat_facets.specs.declared.limits.TheConstants as base

-- ---- which state is used

-- the numbers of segments
abbrev pub segment_numbers : List Segment → List ℕ
segment_numbers segments = map (λ s. s.number) segments

-- it is a state of segments of these numbers, in order, in this dimension
abbrev pub is_kept_as : List ℕ → Text → ReaderState → Bool
is_kept_as numbers dimension k = same_text k.dimension dimension && pointwise nat_eq (segment_numbers k.segments) numbers

-- the states but the first one that is kept as this
abbrev pub others : List ℕ → Text → List ReaderState → List ReaderState
others numbers dimension ks = option_map_or (λ i. remove ks i) (position (is_kept_as numbers dimension) ks) ks

-- how many states are kept
abbrev pub most_kept : ℕ
most_kept = base.MAX_KEPT_STATES

-- the last of them, as many as are kept
abbrev pub last_kept : List ReaderState → List ReaderState
last_kept ks = drop (length ks - most_kept) ks

-- the state was used: it comes last, none else is kept as it is, and the first goes where there are too many
abbrev pub state_used_in : ReaderState → List ReaderState → List ReaderState
state_used_in k ks = last_kept (others (segment_numbers k.segments) k.dimension ks ++ k ∷ [])

-- ---- what segments are known

-- each segment of a kept state that has the number of the segment is it
abbrev pub KnowsIn : List ReaderState → Segment → Type 0
KnowsIn ks s = All (λ k. All (AgreesWith s) k.segments) ks

-- the numbers of all segments of kept states are below this
abbrev pub AreKeptBelow : ℕ → List ReaderState → Type 0
AreKeptBelow n ks = All (λ k. All (λ s. s.number < n) k.segments) ks

-- whatever segment was known is, if none of these is another of its number
abbrev pub RemembersOf : List Segment → List ReaderState → List ReaderState → Type 0
RemembersOf segments old new = (s : Segment) → All (AgreesWith s) segments → KnowsIn old s → KnowsIn new s

-- numbers stay below what they were below, if those of these are too
abbrev pub RemembersOfBelow : List Segment → List ReaderState → List ReaderState → Type 0
RemembersOfBelow segments old new = (n : ℕ) → All (λ s. s.number < n) segments → AreKeptBelow n old → AreKeptBelow n new
