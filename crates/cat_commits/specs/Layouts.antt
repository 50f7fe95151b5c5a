-- How the parts of a commit's file are read. These are what the private functions are held to; the public contracts speak
-- of what is spelled alone.
use Rattle.std.specs.Prelude.{ℕ, ◌^◌, ◌+◌, List, [], length, Option, Some, None, Bool, nat_lt, nat_le, ◌==◌, ◌&&◌, if◌then◌else◌}
use Rattle.std.specs.List.{list_all}
use Rattle.cat_model.specs.Text.{Text}
use Rattle.cat_model.specs.Forms.{is_plain_byte}
use Rattle.cat_model.specs.Limits.{last_number, segment_limit, commit_text_limit}
use Rattle.cat_model.specs.CommitFile.{Version, ListedSegment, CommitFile}
use Rattle.cat_items.specs.file_parts.Reading.{Reader, ◌>>=◌, byte_at, u32_at, u64_at, where_at, both_at, many_at, tested_text_at}
use Rattle.cat_items.specs.file_parts.Layouts.{fields_at}
use Rattle.cat_commits.specs.declared.start.Start.{Start}
use Rattle.cat_commits.specs.Versions.{version_of}

-- what stands before the fields
pub record CommitStart : Type 0 where
  pub version : Version
  pub generation : ℕ
  pub token : ℕ
  pub next : ℕ
  pub text : Text

-- so in the code
abbrev pub start_in : Start → CommitStart
start_in s = record { version = version_of s.version; generation = s.generation; token = s.token; next = s.next; text = s.text.now }

-- ---- forms, as tests

abbrev pub is_number : ℕ → Bool
is_number n = nat_lt 0 n && nat_lt n (2 ^ 63)

abbrev pub is_token : ℕ → Bool
is_token n = nat_le n last_number

abbrev pub is_next : ℕ → Bool
is_next n = nat_le 1 n && nat_le n (last_number + 1)

abbrev pub is_note : Text → Bool
is_note t = nat_le (length t) commit_text_limit && list_all is_plain_byte t

abbrev pub is_count : ℕ → Bool
is_count n = nat_le n segment_limit

abbrev pub is_below_next : ℕ → ℕ → Bool
is_below_next next n = nat_le 1 n && nat_lt n next

-- ---- parts

-- CSGM
abbrev pub commit_magic : ℕ
commit_magic = 1129531213

unfoldable pub version_at : Reader Version
version_at bytes = do
  word ← u32_at bytes
  version ← byte_at word.1
  if version.0 == 1 && word.0 == commit_magic then Some (Version.first, version.1)
      else (if version.0 == 2 && word.0 == commit_magic then Some (Version.second, version.1) else None)

unfoldable pub text_for : Version → Reader Text
text_for Version.first bytes = Some ([], bytes)
text_for Version.second bytes = tested_text_at is_note bytes

unfoldable pub start_at : Reader CommitStart
start_at bytes = do
  version ← version_at bytes
  generation ← where_at is_number u64_at version.1
  token ← where_at is_token u64_at generation.1
  next ← where_at is_next u64_at token.1
  text ← text_for version.0 next.1
  Some (record { version = version.0; generation = generation.0; token = token.0; next = next.0; text = text.0 }, text.1)

-- a segment of a commit of this generation, of before the next number
unfoldable pub listed_at : ℕ → ℕ → Reader ListedSegment
listed_at generation next bytes =
    both_at (where_at (is_below_next next) u64_at) (λ number. where_at (λ file. nat_le file generation) u64_at)
    (λ number file. record { number = number; file = file }) bytes

-- all but that the numbers of the segments differ
unfoldable pub commit_at : List ℕ → Option CommitFile
commit_at bytes = do
  start ← start_at bytes
  fields ← fields_at start.1
  count ← where_at is_count u32_at fields.1
  segments ← many_at (listed_at start.0.generation start.0.next) count.0 count.1
  if length segments.1 == 0
      then Some (record {
        version = start.0.version;
        generation = start.0.generation;
        token = start.0.token;
        next = start.0.next;
        text = start.0.text;
        schema = fields.0;
        segments = segments.0;
      })
      else None
