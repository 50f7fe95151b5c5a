-- The texts that the items of kept rows came as, in the files with the sources of segments, by the numbers of the segments.
use Rattle.std.specs.Prelude.{ℕ, List, [], take, drop, slice_index_or}
use Rattle.cat_model.specs.View.{Row, Segment}
use Rattle.cat_views.specs.cat_segment.Sources.{source_offset}
use Rattle.cat_merge.specs.declared.sources.SourceRange.{SourceRange}

-- the bytes of the range
abbrev pub bytes_in : (ℕ → List ℕ) → SourceRange → List ℕ
bytes_in files range = take range.len (drop range.offset (files range.segment))

-- no row at all
abbrev pub no_row : Row
no_row = record { number = 0; id = []; fields = []; length = 0 }

-- the row of this index
abbrev pub segment_row_at : Segment → ℕ → Row
segment_row_at segment row = slice_index_or segment.rows row no_row

-- the text that the row's item came as
abbrev pub source_in : (ℕ → List ℕ) → Segment → ℕ → List ℕ
source_in files segment row = take (segment_row_at segment row).length (drop (source_offset segment.rows row) (files segment.number))
