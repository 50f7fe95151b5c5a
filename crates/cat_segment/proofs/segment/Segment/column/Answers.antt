use Rattle.std.proofs.Common.{ap, ◌∙◌}
use Rattle.std.specs.List.{position}
use Rattle.cat_model.specs.Text.{same_text}
use Rattle.cat_segment.specs.Body.{body_of}
use Rattle.cat_segment.proofs.Columns.{column_named, column_missing, placed_at}
use Rattle.cat_segment.proofs.segment.Segment.column.Goals as goal

pub returns-in_err-index_of : goal.returns-in_err-index_of
returns-in_err-index_of c =
    let found = c.in_err-index_of.ensures ∙ ap (position (λ f. same_text f.name c.args.name.now)) c.fields.ensures.value in
    rw (c.from_residual.ensures, ← c.self.view_is) (column_missing _ c.self.invariant c.args.name.now found)

pub returns : goal.returns
returns c =
    let found = c.in_ok-index_of.ensures ∙ ap (position (λ f. same_text f.name c.args.name.now)) c.fields.ensures.value in
    rw (← c.self.view_is) (column_named _ c.self.invariant c.args.name.now _ (placed_at c.args.name.now (body_of c.self.inside).schema _ found) c.get.result (rw c.deref.ensures.value at c.get.ensures.lookup.3))
