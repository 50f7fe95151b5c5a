-- The file of a commit, `segments_<g>`: Lucene's SegmentInfos, a list of SegmentCommitInfo with user data. The layout is our own.
use Rattle.std.specs.Prelude.{◌≡◌, ◌≢◌, ℕ, ◌+◌, ◌<◌, ◌≤◌, ◌==◌, List, [], ◌∷◌, ◌++◌, length, codes, cond, All, AllPairs}
use Rattle.std.specs.List.{flat_map}
use Rattle.cat_base.specs.Bytes.{spelled_u64, spelled_bytes}
use Rattle.cat_model.specs.Text.{Text}
use Rattle.cat_model.specs.Item.{Schema, IsSchema}
use Rattle.cat_model.specs.Forms.{IsPlain}
use Rattle.cat_model.specs.Files.{Name, IsFileNumber}
use Rattle.cat_model.specs.SegmentFile.{spelled_each, spelled_field}
use Rattle.cat_model.specs.Limits.{commit_text_limit, last_number, segment_limit}

-- The two versions of the file. The first knows no text; it is read, and the second alone is written.
pub data Version : Type 0 where
  first : Version
  second : Version

-- a segment of a commit: its number, and the generation of the commit that wrote its live rows, 0 where all of them are live
pub record ListedSegment : Type 0 where
  pub number : ℕ
  pub file : ℕ

-- a commit as its file has it: the version; its generation, its token, the next segment number and its text; the fields; and
-- its segments in order
pub record CommitFile : Type 0 where
  pub version : Version
  pub generation : ℕ
  pub token : ℕ
  pub next : ℕ
  pub text : Text
  pub schema : Schema
  pub segments : List ListedSegment

-- ---- what can be said in such a file

-- the first version has no text, and the second one with the form of texts of commits
abbrev pub HasText : Version → Text → Type 0
HasText Version.first text = text ≡ []
HasText Version.second text = IsPlain commit_text_limit text

-- a segment number of before the next one, and a live file of no later commit
pub record IsListed (generation next : ℕ) (s : ListedSegment) : Type 0 where
  pub positive : 1 ≤ s.number
  pub past : s.number < next
  pub file : s.file ≤ generation

-- numbers that fit, and at most `segment_limit` segments, whose numbers differ
pub record IsCommitFile (c : CommitFile) : Type 0 where
  pub generation : IsFileNumber c.generation
  pub token : c.token ≤ last_number
  pub next_low : 1 ≤ c.next
  pub next_high : c.next ≤ last_number + 1
  pub text : HasText c.version c.text
  pub schema : IsSchema c.schema
  pub few : length c.segments ≤ segment_limit
  pub listed : All (IsListed c.generation c.next) c.segments
  pub distinct : AllPairs (λ a b. a.number ≢ b.number) c.segments

-- ---- its bytes

-- the byte of a version
abbrev pub version_byte : Version → ℕ
version_byte Version.first = 1
version_byte Version.second = 2

-- the text, where the version has one
abbrev pub spelled_text : Version → Text → List ℕ
spelled_text Version.first text = []
spelled_text Version.second text = spelled_bytes text

-- the number of the segment, and the generation of its live file
abbrev pub spelled_listed : ListedSegment → List ℕ
spelled_listed s = spelled_u64 s.number ++ spelled_u64 s.file

-- the magic word, the version, the generation, the token, the next segment number, the text, the fields, the number of
-- segments, and each of them
abbrev pub spelled_commit : CommitFile → List ℕ
spelled_commit c =
    codes "CSGM" ++ (version_byte c.version ∷ (spelled_u64 c.generation ++ (spelled_u64 c.token ++ (spelled_u64 c.next
    ++ (spelled_text c.version c.text ++ (spelled_each spelled_field c.schema
    ++ spelled_each (λ s. spelled_u64 s.number ++ spelled_u64 s.file) c.segments))))))

-- the bytes are those of the commit's file
pub record SpellsCommit (bytes : List ℕ) (c : CommitFile) : Type 0 where
  pub form : IsCommitFile c
  pub spelled : bytes ≡ spelled_commit c

-- ---- the files that it needs

-- the name of the live file of this generation, and none where that is 0
abbrev pub live_names : ℕ → ℕ → List Name
live_names number file = cond (file == 0) [] (Name.live number file ∷ [])

-- the names of a segment of a commit: its rows, their sources, and its live file if it has one
abbrev pub listed_names : ListedSegment → List Name
listed_names s = Name.segment s.number ∷ Name.source s.number ∷ cond (s.file == 0) [] (Name.live s.number s.file ∷ [])

-- the names of a commit: its own file, and those of its segments (IndexCommit.getFileNames)
abbrev pub commit_needs : CommitFile → List Name
commit_needs c = Name.commit c.generation ∷ flat_map listed_names c.segments
