-- What memory has of a ledger, as a shape; what always holds of it; and what a flush or a refusal makes of it and of the device.
use Rattle.std.specs.Prelude.{◌≡◌, ◌≢◌, ◌⊎◌, ℕ, ◌<◌, ◌≤◌, Bool, true, List, [], ◌∷◌, length, Option, Some, None, option_map, Any}
use Rattle.cat_model.specs.Files.{Name}
use Rattle.cat_model.specs.Item.{Schema}
use Rattle.cat_model.specs.Limits.{last_number, segment_limit}
use Rattle.cat_model.specs.Merged.{rows_of_all}
use Rattle.cat_directory.specs.Names.{name_of}
use Rattle.cat_directory.specs.declared.name.FileName.{FileName}
use Rattle.cat_ledger_laws.specs.model.Ledger.{IsPast}
use Rattle.cat_ledger_laws.specs.model.Users.{Used, has_name, is_known, users_of}
use Rattle.cat_ledger_laws.specs.shape.Shapes.{MergingShape, Shape, IsShape, flushed_leaf, names_of_leaves}
use Rattle.cat_ledger_laws.specs.shape.Steps.{IsFlushed, IsCopied, IsEnded, Leaves}
use Rattle.cat_ledger_laws.specs.shape.MergeLaws.{CopiesOn}
use Rattle.cat_ledger_laws.specs.shape.Ties.{ToldFiles, TouchesOnly, TouchesNothing}
use Rattle.cat_ledger_laws.specs.shape.WriteLaws.{WritesFlush}
use Rattle.cat_merge.specs.files.Making.{InMaking}
use Rattle.cat_merge.specs.files.Sources.{LacksBytes, LacksSources, MayReachSources}
use Rattle.cat_lifetimes.specs.records.Records.{Records}
use Rattle.cat_ledger_state.specs.declared.state.Core.TheInside.{Inside}

abbrev pub shape_of_core : Inside → Shape
shape_of_core c = record {
  schema = c.schema;
  leaves = c.current;
  buffered = c.buffer.records;
  count = c.count;
  views = c.records.views;
  holds = c.records.holds;
  commits = c.commits.items;
  listed = c.listing;
  taken = c.snapshots;
  merging = option_map (λ m. m.shape) c.merging;
  users = c.refs;
  next_segment = c.next_segment;
  next_generation = c.next_generation;
}

-- a merge has the schema
abbrev pub MergesUnder : Schema → Option InMaking → Type 0
MergesUnder schema None = Unit {0}
MergesUnder schema (Some m) = m.schema ≡ schema

-- the numbers of each known name, used or pending, were given out
abbrev pub KnownArePast : List Used → ℕ → ℕ → Type 0
KnownArePast us n g = (q : Name) → is_known us q ≡ true → IsPast n g q

-- a name that is known now was known before, or somebody uses it
abbrev pub ComesUsed : List Used → List Used → Type 0
ComesUsed old new = (q : Name) → is_known new q ≡ true → (is_known old q ≡ true) ⊎ (0 < users_of new q)

-- It is the shape of some ledger; what waits, and a merge, have its schema; a commit can list its segments; and no name is known, used
-- or pending, whose numbers weren't given out.
pub record IsCore (c : Inside) : Type 0 where
  pub shape : IsShape (shape_of_core c)
  pub waits : c.buffer.schema ≡ c.schema
  pub few : length c.current ≤ segment_limit
  pub merges : MergesUnder c.schema c.merging
  pub known : KnownArePast c.refs c.next_segment c.next_generation

-- the names of the files that a flush begins
abbrev pub flush_begins : Shape → List Name
flush_begins s = names_of_leaves (flushed_leaf s ∷ [])

-- what a flush makes: nothing where nothing waits
abbrev pub HasFlushed : ToldFiles → Shape → ToldFiles → Shape → Type 0
HasFlushed told s told' new =
    ((s.buffered ≡ []) × (new ≡ s) × TouchesNothing told told') ⊎ (IsFlushed s new × WritesFlush s told told')

-- What a refused call leaves: all as it was, or names that it began.
abbrev pub HasGivenUp : List Name → ToldFiles → Shape → ToldFiles → Shape → Type 0
HasGivenUp begun told s told' new = ((new ≡ s) × TouchesNothing told told') ⊎ (Leaves begun s new × TouchesOnly begun told told')

-- Each name that was known, used or pending, still is: no file is forgotten that a sweep is to delete.
abbrev pub StayKnown : List Used → List Used → Type 0
StayKnown old new = (q : Name) → is_known old q ≡ true → is_known new q ≡ true

-- its views and holds
abbrev pub views_and_holds : Shape → Records
views_and_holds s = record { views = s.views; holds = s.holds }

-- ---- the flush

-- the file is one of those that are begun
abbrev pub is_begun : List Name → FileName → Bool
is_begun begun q = has_name (name_of q) begun

-- something waits, and no number is left for a segment, or as many stand as may
abbrev pub MayNotFlush : Shape → Type 0
MayNotFlush s = (s.buffered ≢ []) × ((last_number < s.next_segment) ⊎ (segment_limit ≤ length s.leaves))

-- ---- merges

-- the step of a merge is made, and its sources stand behind those that were copied
pub record HasCopied (told : ToldFiles) (s : Shape) (told' : ToldFiles) (new : Shape) : Type 0 where
  pub merge : MergingShape
  pub copied : IsCopied merge s new
  pub written : CopiesOn merge told told'

-- the merge in the making is over, with nothing made
pub record HasEnded (told : ToldFiles) (s : Shape) (told' : ToldFiles) (new : Shape) : Type 0 where
  pub merge : MergingShape
  pub ended : IsEnded merge s new
  pub others : TouchesOnly (Name.source merge.number ∷ Name.segment merge.number ∷ []) told told'

-- a merge is in the making, which has rows left to pass
abbrev pub HasRowsLeft : Option MergingShape → Type 0
HasRowsLeft None = ⊥
HasRowsLeft (Some m) = m.passed < length (rows_of_all m.inputs)

-- the file is that of the sources of the merge in the making
abbrev pub IsSourceOf : Option MergingShape → FileName → Type 0
IsSourceOf None q = ⊥
IsSourceOf (Some m) q = q ≡ FileName.Source m.number

-- Where a merge is in the making that has rows left, the device doesn't tell that a source which its next step is to copy isn't in the file of
-- its segment.
abbrev pub MayCopy : ToldFiles → Option MergingShape → Type 0
MayCopy told None = Unit {0}
MayCopy told (Some m) = m.passed < length (rows_of_all m.inputs) → MayReachSources m told

-- A merge is in the making, and one of the sources that its next step is to copy isn't in the file of its segment, where that is told.
abbrev pub LacksToCopy : ToldFiles → Option MergingShape → Type 0
LacksToCopy told None = ⊥
LacksToCopy told (Some m) = LacksSources m told

-- A merge is in the making, and of one of the segments that it takes the file with sources lacks bytes, where that is told.
abbrev pub LacksInput : ToldFiles → Option MergingShape → Type 0
LacksInput told None = ⊥
LacksInput told (Some m) = Any (LacksBytes told) m.inputs

-- A merge is in the making, and its own file of sources is told to be absent.
abbrev pub LacksOwn : ToldFiles → Option MergingShape → Type 0
LacksOwn told None = ⊥
LacksOwn told (Some m) = told (FileName.Source m.number) ≡ Some None
