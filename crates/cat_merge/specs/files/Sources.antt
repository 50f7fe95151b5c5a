-- Ranges of files with sources, and what a device tells of them.
use Rattle.std.specs.Prelude.{◌≡◌, ◌≢◌, ◌+◌, ◌++◌, ◌<◌, ◌≤◌, ℕ, Bool, true, false, List, [], ◌∷◌, length, map, sum, Some, None, All, Any, if◌then◌else◌}
use Rattle.std.specs.List.{flat_map}
use Rattle.cat_model.specs.Text.{Text}
use Rattle.cat_directory.specs.declared.name.FileName.{FileName}
use Rattle.cat_directory.specs.declared.name.FileName.TheVariants as file
use Rattle.cat_directory.specs.Devices.{Told, told_after, extended}
use Rattle.cat_ledger_laws.specs.shape.Ties.{ToldFiles}
use Rattle.cat_ledger_laws.specs.shape.Shapes.{MergingShape}
use Rattle.cat_ledger_laws.specs.shape.Steps.{passed_on}
use Rattle.cat_merge.specs.Copied.{bytes_in, segment_row_at}
use Rattle.cat_merge.specs.Places.{input_at}
use Rattle.cat_merge.specs.Ranges.{AreWithin}
use Rattle.cat_merge.specs.declared.place.Place.{Place}
use Rattle.cat_ledger_laws.specs.model.Stored.{joined_sources}
use Rattle.cat_merge.specs.declared.sources.SourceRange.{SourceRange}
use Rattle.cat_model.specs.Merged.{records_kept}
use Rattle.cat_model.specs.RowSets.{has_row}
use Rattle.cat_views.specs.cat_segment.Sources.{source_offset}
use Rattle.cat_model.specs.View.{Leaf}

-- the bytes that are told of a file; none where it is absent, or nothing is told
abbrev pub bytes_told : Told → Text
bytes_told None = []
bytes_told (Some None) = []
bytes_told (Some (Some bytes)) = bytes

-- the sources of each segment, by its number, as the device tells them
abbrev pub sources_told : ToldFiles → ℕ → Text
sources_told told n = bytes_told (told (file.Source n))

-- the device tells of every file
abbrev pub TellsAll : ToldFiles → Type 0
TellsAll told = (q : FileName) → told q ≢ None

-- no file that is told has all bytes of the range
abbrev pub IsCutOff : ToldFiles → SourceRange → Type 0
IsCutOff told range = (bytes : Text) → told (file.Source range.segment) ≡ Some (Some bytes) → length bytes < range.offset + range.len

-- the file isn't told to be absent, nor to end before the range does
abbrev pub MayReachRange : ToldFiles → SourceRange → Type 0
MayReachRange told range = (told (file.Source range.segment) ≢ Some None)
    × ((bytes : Text) → told (file.Source range.segment) ≡ Some (Some bytes) → range.offset + range.len ≤ length bytes)

-- the file with the sources of the leaf's segment, if it is told, hasn't as many bytes as all of its rows' items came as
abbrev pub LacksBytes : ToldFiles → Leaf → Type 0
LacksBytes told leaf = (bytes : Text) → told (file.Source leaf.segment.number) ≡ Some (Some bytes)
    → length bytes < sum (map (λ row. row.length) leaf.segment.rows)

-- Behind the bytes of the file stand those of the ranges, as many as they say: where the device tells its files, those that stand
-- there.
pub record AreAppended (ranges : List SourceRange) (to : FileName) (told told' : ToldFiles) : Type 0 where
  pub bytes : Text
  pub long : length bytes ≡ sum (map (λ r. r.len) ranges)
  pub read : TellsAll told → bytes ≡ flat_map (bytes_in (sources_told told)) ranges
  pub extends : told' to ≡ told_after (extended bytes) (told to)

-- One of the ranges is cut off that make, in whatever files, the sources of the rows that the merge's next step keeps.
pub record LacksSources (m : MergingShape) (told : ToldFiles) : Type 0 where
  pub ranges : List SourceRange
  pub named : (files : ℕ → Text) → joined_sources (records_kept files m.inputs m.passed) ++ flat_map (bytes_in files) ranges
      ≡ joined_sources (records_kept files m.inputs (passed_on m).passed)
  pub cut : Any (IsCutOff told) ranges

-- The ranges that make, in whatever files, the sources of the rows that the merge's next step keeps are in files of which none is told to be
-- absent, nor to end before the range does.
pub record MayReachSources (m : MergingShape) (told : ToldFiles) : Type 0 where
  pub ranges : List SourceRange
  pub named : (files : ℕ → Text) → joined_sources (records_kept files m.inputs m.passed) ++ flat_map (bytes_in files) ranges
      ≡ joined_sources (records_kept files m.inputs (passed_on m).passed)
  pub reached : All (MayReachRange told) ranges

-- ---- row by row

-- where the source of the row of the place stands, if the row is kept
abbrev pub ranges_at : List Leaf → Place → List SourceRange
ranges_at inputs place = (if has_row (input_at inputs place.input).live place.row then record {
  segment = (input_at inputs place.input).segment.number;
  offset = source_offset (input_at inputs place.input).segment.rows place.row;
  len = (segment_row_at (input_at inputs place.input).segment place.row).length;
} ∷ [] else [])

-- What is found of the sources that are kept of the rows between these numbers of passed ones: whether one of them is lacking.
pub record AreJudged (told : ToldFiles) (inputs : List Leaf) (from to : ℕ) (lacking : Bool) : Type 0 where
  pub ranges : List SourceRange
  pub named : (files : ℕ → Text) → joined_sources (records_kept files inputs from) ++ flat_map (bytes_in files) ranges
      ≡ joined_sources (records_kept files inputs to)
  pub within : AreWithin inputs ranges
  pub cut : lacking ≡ true → Any (IsCutOff told) ranges
  pub reached : lacking ≡ false → All (MayReachRange told) ranges
