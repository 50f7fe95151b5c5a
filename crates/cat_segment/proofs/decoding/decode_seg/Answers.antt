use Rattle.std.proofs.Common.{◌≡◌, sym, ap, ◌∙◌, subst}
use Rattle.std.proofs.lemmas.Result.{err_from_is_err_and, IfOk-weaker, MatchResult-weaker}
use Rattle.cat_items.proofs.file_parts.Segments.{told_by_bytes}
use Rattle.cat_items.specs.file_parts.Parts.{layout_in}
use Rattle.cat_model.specs.Files.{IsFileNumber}
use Rattle.cat_model.specs.Layout.{layout_of, spelled_layout, SpellsSegment}
use Rattle.cat_model.specs.View.{IsSegment}
use Rattle.cat_model.proofs.SegmentBytes.{spelled_as_laid}
use Rattle.cat_segment.proofs.Layouts.{IsLayout-of}
use Rattle.cat_segment.proofs.decoding.decode_seg.Goals as goal

pub returns-in_err-parts-clause-damaged : goal.returns-in_err-parts-clause-damaged
returns-in_err-parts-clause-damaged c =
    let p = err_from_is_err_and c.from_residual.result c.from_residual.ensures.1 in
    rw (p.1, p.2) (λ is s spells. c.in_err-parts.ensures.damaged is (layout_of s) (IsLayout-of s spells.form spells.number) (spells.spelled ∙ spelled_as_laid s))

pub returns-clause-ok : goal.returns-clause-ok
returns-clause-ok c =
    let read = c.in_ok-parts.ensures.ok in
    let layout = layout_in c.in_ok-parts.parts in
    IfOk-weaker c.assemble.result (λ s. IsSegment s × (layout_of s ≡ layout)) (SpellsSegment c.args.bytes.now)
    (λ s is. record { number = subst (λ l. IsFileNumber l.number) (sym is.1) read.1.number; form = is.0; spelled = read.2 ∙ ap spelled_layout (sym is.1) ∙ sym (spelled_as_laid s) })
    c.assemble.ensures.ok

pub returns-clause-damaged : goal.returns-clause-damaged
returns-clause-damaged c =
    let read = c.in_ok-parts.ensures.ok in
    MatchResult-weaker c.assemble.result c.assemble.ensures.damaged (λ x t. t)
    (λ e none is s spells. none is s spells.form (told_by_bytes (layout_of s) (layout_in c.in_ok-parts.parts) (IsLayout-of s spells.form spells.number) read.1 (sym (spells.spelled ∙ spelled_as_laid s) ∙ read.2)))

pub returns-in_err-parts-clause-due : goal.returns-in_err-parts-clause-due
returns-in_err-parts-clause-due c =
    let p = err_from_is_err_and c.from_residual.result c.from_residual.ensures.1 in
    rw (p.1, p.2) c.in_err-parts.ensures.due

pub returns-clause-due : goal.returns-clause-due
returns-clause-due c =
    let read = c.in_ok-parts.ensures.ok in
    MatchResult-weaker c.assemble.result c.assemble.ensures.due (λ x t. t) (λ e _ is. (layout_in c.in_ok-parts.parts, read.1, read.2))
