use Rattle.std.proofs.Common.{ap, sym, ◌∙◌}
use Rattle.std.proofs.lemmas.Result.{err_from_is_err_and}
use Rattle.cat_base.specs.declared.refusal.Refusal.TheVariants.{Damaged}
use Rattle.cat_items.specs.file_parts.Layouts.{layout_at}
use Rattle.cat_items.specs.file_parts.Parts.{layout_in}
use Rattle.cat_items.proofs.file_parts.Segments.{layout_sound, never_laid}
use Rattle.cat_items.proofs.file_parts.reading.read_segment.Goals as goal

pub returns-clause-ok : goal.returns-clause-ok
returns-clause-ok c = let s = layout_sound c.args.bytes.now (layout_in c.in_ok-parts.parts) c.in_ok-parts.ensures.gives in (c.in_ok-parts.ensures.formed, s.0, s.1)

pub returns-in_err-check-clause-damaged : goal.returns-in_err-check-clause-damaged
returns-in_err-check-clause-damaged c =
    let p = err_from_is_err_and c.from_residual.result c.from_residual.ensures.1 in
    let none = ap layout_at (sym c.new.ensures) ∙ c.in_err-check.ensures.err in
    rw (p.1, p.2) (never_laid c.args.bytes.now Damaged none)

pub returns-in_err-parts-clause-damaged : goal.returns-in_err-parts-clause-damaged
returns-in_err-parts-clause-damaged c =
    let p = err_from_is_err_and c.from_residual-in_err-parts.result c.from_residual-in_err-parts.ensures.1 in
    rw (p.1, p.2) (never_laid c.args.bytes.now c.in_err-parts.field-0.0 c.in_err-parts.ensures.gives)

pub returns-in_err-parts-clause-due : goal.returns-in_err-parts-clause-due
returns-in_err-parts-clause-due c =
    let laid = c.in_ok-check.ensures.ok in
    let p = err_from_is_err_and c.from_residual-in_err-parts.result c.from_residual-in_err-parts.ensures.1 in
    rw (p.1, p.2) (λ memory.
    let s = layout_sound c.args.bytes.now laid.0 (ap layout_at (sym c.new.ensures) ∙ laid.1) in
    (laid.0, s.0, s.1))
