use Rattle.std.proofs.Common.{sym, ◌∙◌}
use Rattle.cat_model.specs.Layout.{layout_of}
use Rattle.cat_model.proofs.SegmentBytes.{spelled_as_laid}
use Rattle.cat_columns.proofs.inverted.Told.{told as told_terms}
use Rattle.cat_columns.proofs.Told.{same_keywords, same_labels}
use Rattle.cat_segment.proofs.Layouts.{AreTold, IsLayout-of, segment_told}
use Rattle.cat_segment.proofs.decoding.segments_are_told_by_their_bytes.Goals as goal

pub returns : goal.returns
returns c = λ bytes s t a b.
    let told : AreTold = record { terms = told_terms; keywords = same_keywords; labels = same_labels } in
    segment_told told s t a.form b.form (c.layouts_are_told_by_their_bytes.ensures (layout_of s) (layout_of t) (IsLayout-of s a.form a.number) (IsLayout-of t b.form b.number) (sym (a.spelled ∙ spelled_as_laid s) ∙ b.spelled ∙ spelled_as_laid t))
