-- The laws of what segments, their merges and their files are. Nothing to believe: each is the contract of a public function,
-- and so proved.
use Rattle.std.specs.Prelude.{◌≡◌, ℕ, ◌≤◌, List, length, map, sum, All, Option}
use Rattle.std.specs.List.{flat_map}
use Rattle.cat_base.specs.Texts.{IsTextSet}
use Rattle.cat_model.specs.Text.{Text}
use Rattle.cat_model.specs.Item.{Schema}
use Rattle.cat_model.specs.View.{Segment, Leaf, row_of, live_rows}
use Rattle.cat_model.specs.SegmentFile.{spelled_segment}
use Rattle.cat_model.specs.Layout.{layout_of, spelled_layout}
use Rattle.cat_model.specs.CommitFile.{CommitFile, SpellsCommit}
use Rattle.cat_model.specs.Window.{IsLevel, IsWindow}
use Rattle.cat_model.specs.Merged.{AreDeletedFrom, rows_kept, records_kept, merged_leaf}
use Rattle.cat_model.specs.GlobalOrdinals.{IsOrdinalMap}

-- The bytes of a segment's file are those of its layout.
abbrev pub SegmentsAreSpelledAsLaid : Type 0
SegmentsAreSpelledAsLaid = (s : Segment) → spelled_segment s ≡ spelled_layout (layout_of s)

-- Bytes are the file of one commit at most.
abbrev pub CommitsAreToldByTheirBytes : Type 0
CommitsAreToldByTheirBytes = (bytes : List ℕ) (one two : CommitFile) → SpellsCommit bytes one → SpellsCommit bytes two → one ≡ two

-- So many rows have one level at most.
abbrev pub LevelsAreOne : Type 0
LevelsAreOne = (factor least rows k l : ℕ) → IsLevel factor least rows k → IsLevel factor least rows l → k ≡ l

-- Segments of these sizes have one window at most.
abbrev pub WindowsAreOne : Type 0
WindowsAreOne =
    (factor least : ℕ) (sizes : List ℕ) (one two : Option ℕ)
    → IsWindow factor least sizes one → IsWindow factor least sizes two → one ≡ two

-- A merged segment shows what its inputs show at the end, whatever was deleted since the beginning.
abbrev pub MergedShowTheEnd : Type 0
MergedShowTheEnd =
    (number : ℕ) (schema : Schema) (before after : List Leaf)
    → All (λ leaf. length leaf.live ≡ length leaf.segment.rows) before → AreDeletedFrom before after
    → live_rows (merged_leaf number schema before after) ≡ flat_map live_rows after

-- Where no file is too short, the rows that are kept are those of the records that are kept.
abbrev pub KeptAreSourced : Type 0
KeptAreSourced =
    (files : ℕ → List ℕ) (inputs : List Leaf) (passed : ℕ)
    → All (λ leaf. sum (map (λ r. r.length) leaf.segment.rows) ≤ length (files leaf.segment.number)) inputs
    → map row_of (records_kept files inputs passed) ≡ rows_kept inputs passed

-- A dictionary has one map at most to the ordinals of another one.
abbrev pub OrdinalMapsAreOne : Type 0
OrdinalMapsAreOne =
    (global_dictionary dictionary : List Text) (one two : List ℕ) → IsTextSet global_dictionary
    → IsOrdinalMap global_dictionary dictionary one → IsOrdinalMap global_dictionary dictionary two → one ≡ two
