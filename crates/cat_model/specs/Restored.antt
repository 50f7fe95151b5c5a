-- What the files of a commit say together, which is what an opening judges: Lucene's SegmentInfos.readCommit and
-- StandardDirectoryReader.open, with what CheckIndex asks of them. The rules are our own.
use Rattle.std.specs.Prelude.{◌≡◌, ◌≢◌, ℕ, ◌≤◌, ◌==◌, Bool, true, List, [], ◌∷◌, length, map, sum, replicate, cond, Option, Some, All}
use Rattle.cat_model.specs.Text.{Text}
use Rattle.cat_model.specs.Item.{Schema}
use Rattle.cat_model.specs.Files.{Name}
use Rattle.cat_model.specs.CommitFile.{ListedSegment, CommitFile, SpellsCommit}
use Rattle.cat_model.specs.SegmentFile.{SpellsSegment}
use Rattle.cat_model.specs.LiveFile.{SpellsLive}
use Rattle.cat_model.specs.View.{Segment, Leaf, IsView}
use Rattle.cat_model.specs.Merged.{rows_of_all}

-- a commit, with what the files of its segments hold
pub record Restored : Type 0 where
  pub commit : CommitFile
  pub leaves : List Leaf

-- In what follows `holds q bytes` says that the file of the name q has just these bytes: so it is, where the bytes of each name
-- are given, absent ones with none.
abbrev pub In : (Name → Option Text) → Name → Text → Type 0
In files q bytes = files q ≡ Some bytes

-- ---- each file by itself

-- the commit's own file holds it, and it has the number of the file's name
pub record HasCommit (holds : Name → Text → Type 0) (generation : ℕ) (c : CommitFile) : Type 0 where
  pub bytes : Text
  pub there : holds (Name.commit generation) bytes
  pub spelled : SpellsCommit bytes c
  pub number : c.generation ≡ generation

-- the segment stands in the file of its number
pub record HasSegment (holds : Name → Text → Type 0) (s : Segment) : Type 0 where
  pub bytes : Text
  pub there : holds (Name.segment s.number) bytes
  pub spelled : SpellsSegment bytes s

-- the file of its rows' sources is as long as all of them together; what it holds isn't looked at
pub record HasSources (holds : Name → Text → Type 0) (s : Segment) : Type 0 where
  pub bytes : Text
  pub there : holds (Name.source s.number) bytes
  pub size : length bytes ≡ sum (map (λ r. r.length) s.rows)

-- the live set stands in the live file of the two numbers
pub record HasLiveFile (holds : Name → Text → Type 0) (x : ListedSegment) (live : List Bool) : Type 0 where
  pub bytes : Text
  pub there : holds (Name.live x.number x.file) bytes
  pub spelled : SpellsLive bytes (record { number = x.number; generation = x.file; live = live })

-- ---- the files of a listed segment

-- the leaf has the segment of that number, under the schema; where no live file is listed all rows are live, else those that
-- it says; and the sources are there
pub record IsLeafOf (holds : Name → Text → Type 0) (schema : Schema) (x : ListedSegment) (leaf : Leaf) : Type 0 where
  pub number : leaf.segment.number ≡ x.number
  pub fields : leaf.segment.schema ≡ schema
  pub segment : HasSegment holds leaf.segment
  pub live : cond (x.file == 0) (leaf.live ≡ replicate (length leaf.segment.rows) true) (HasLiveFile holds x leaf.live)
  pub rows : length leaf.live ≡ length leaf.segment.rows
  pub sources : HasSources holds leaf.segment

-- so each leaf is of the listed segment in its place
abbrev pub AreLeavesOf : (Name → Text → Type 0) → Schema → List ListedSegment → List Leaf → Type 0
AreLeavesOf holds schema [] [] = Unit {0}
AreLeavesOf holds schema (x ∷ xs) (leaf ∷ leaves) = IsLeafOf holds schema x leaf × AreLeavesOf holds schema xs leaves
AreLeavesOf holds schema xs leaves = ⊥

-- ---- all of them

-- The files hold the commit of this generation, under this schema, and its segments. Together these are a view, so that the
-- numbers of writes rise over all rows, dead ones too, and the ids of live rows differ; and no row was put after the commit.
pub record IsRestored (holds : Name → Text → Type 0) (schema : Schema) (generation : ℕ) (r : Restored) : Type 0 where
  pub commit : HasCommit holds generation r.commit
  pub fields : r.commit.schema ≡ schema
  pub leaves : AreLeavesOf holds schema r.commit.segments r.leaves
  pub view : IsView (record { schema = schema; leaves = r.leaves; token = r.commit.token })
  pub seen : All (λ row. row.number ≤ r.commit.token) (rows_of_all r.leaves)

-- the commit of this generation has another schema; this is judged before any file of a segment
abbrev pub IsForeign : (Name → Text → Type 0) → Schema → ℕ → Type 0
IsForeign holds schema generation = (c : CommitFile) × HasCommit holds generation c × (c.schema ≢ schema)
