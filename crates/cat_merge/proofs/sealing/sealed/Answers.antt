use Rattle.std.proofs.Common.{◌≡◌, ℕ, length, sym, ap, ◌∙◌, subst, inl, inr}
use Rattle.std.specs.Prelude.{All}
use Rattle.std.proofs.lemmas.List.{length-map}
use Rattle.cat_items.specs.declared.file_parts.parts.ColumnParts.TheVariants as column
use Rattle.cat_items.specs.file_parts.Parts.{heads_in}
use Rattle.cat_model.specs.Item.{Schema}
use Rattle.cat_model.specs.Layout.{head_of}
use Rattle.cat_views.specs.cat_segment.Index.{AreAllRows}
use Rattle.cat_merge.specs.Fields.{kept_rows, AreMergedColumns}
use Rattle.cat_merge.proofs.Sealed.{each_cut, fits, has_segment, heads_long, is_merged}
use Rattle.cat_merge.proofs.sealing.sealed.Goals as goal

pub assemble_runs-requires-clause-parts : goal.assemble_runs-requires-clause-parts
assemble_runs-requires-clause-parts c = record {
  ids = c.in_ok-numbers.ensures.ids;
  lengths = c.in_ok-numbers.ensures.lengths;
  columns = each_cut c.args.schema (kept_rows c.args.inputs.now) c.in_ok-columns.columns.items
      (subst (λ (fs : Schema). AreMergedColumns fs (kept_rows c.args.inputs.now) c.in_ok-columns.columns.items) c.fields.ensures.value c.in_ok-columns.ensures.columns);
}

pub assemble_runs-requires-clause-layout : goal.assemble_runs-requires-clause-layout
assemble_runs-requires-clause-layout c =
    fits c.args.number c.args.schema c.args.inputs.now c.requires.may c.requires.inputs c.requires.some (column.Keyword c.in_ok-numbers.ids c.in_ok-numbers.lengths) c.in_ok-columns.columns.items
    (subst (λ (fs : Schema). AreMergedColumns fs (kept_rows c.args.inputs.now) c.in_ok-columns.columns.items) c.fields.ensures.value c.in_ok-columns.ensures.columns)
    (heads_in c.in_ok-numbers.numbers.items c.in_ok-numbers.ids.items c.in_ok-numbers.lengths.items) (c.in_ok-numbers.ensures.heads ∙ c.requires.kept)

pub assemble_runs-requires-clause-runs : goal.assemble_runs-requires-clause-runs
assemble_runs-requires-clause-runs c =
    let long : length (kept_rows c.args.inputs.now) ≡ length c.in_ok-numbers.ids.items =
    sym (length-map (kept_rows c.args.inputs.now) head_of) ∙ ap length (sym (c.in_ok-numbers.ensures.heads ∙ c.requires.kept))
    ∙ heads_long c.in_ok-numbers.numbers.items c.in_ok-numbers.ids.items c.in_ok-numbers.lengths.items c.in_ok-numbers.ensures.ids c.in_ok-numbers.ensures.lengths in
    subst (λ n. AreAllRows n c.in_ok-columns.runs.items) long c.in_ok-columns.ensures.rows

pub assemble_runs-requires-clause-orders : goal.assemble_runs-requires-clause-orders
assemble_runs-requires-clause-orders c =
    let long : length (kept_rows c.args.inputs.now) ≡ length c.in_ok-numbers.ids.items =
    sym (length-map (kept_rows c.args.inputs.now) head_of) ∙ ap length (sym (c.in_ok-numbers.ensures.heads ∙ c.requires.kept))
    ∙ heads_long c.in_ok-numbers.numbers.items c.in_ok-numbers.ids.items c.in_ok-numbers.lengths.items c.in_ok-numbers.ensures.ids c.in_ok-numbers.ensures.lengths in
    subst (λ (n : ℕ). All (λ order. AreAllRows n order.items) c.in_ok-columns.orders.items) long c.in_ok-columns.ensures.orders

pub returns-in-Ok : goal.returns-in-Ok
returns-in-Ok c = record {
  ok = is_merged c.args.number c.args.schema c.args.inputs.now c.requires.may c.requires.inputs c.requires.some (column.Keyword c.in_ok-numbers.ids c.in_ok-numbers.lengths) c.in_ok-columns.columns.items
      (subst (λ (fs : Schema). AreMergedColumns fs (kept_rows c.args.inputs.now) c.in_ok-columns.columns.items) c.fields.ensures.value c.in_ok-columns.ensures.columns)
      (heads_in c.in_ok-numbers.numbers.items c.in_ok-numbers.ids.items c.in_ok-numbers.lengths.items) (c.in_ok-numbers.ensures.heads ∙ c.requires.kept)
      c.in-Ok.segment c.in-Ok.ensures.ok.0 c.in-Ok.ensures.ok.1;
  some = c.requires.some;
}

pub want_of_memory-requires : goal.want_of_memory-requires
want_of_memory-requires c = elim c.in-Err.ensures.refusal [
  | inl damaged ↦ absurd (has_segment c.args.number c.args.schema c.args.inputs.now c.requires.may c.requires.inputs c.requires.some (column.Keyword c.in_ok-numbers.ids c.in_ok-numbers.lengths) c.in_ok-columns.columns.items
      (subst (λ (fs : Schema). AreMergedColumns fs (kept_rows c.args.inputs.now) c.in_ok-columns.columns.items) c.fields.ensures.value c.in_ok-columns.ensures.columns)
      (heads_in c.in_ok-numbers.numbers.items c.in_ok-numbers.ids.items c.in_ok-numbers.lengths.items) (c.in_ok-numbers.ensures.heads ∙ c.requires.kept)
      (c.in-Err.ensures.damaged damaged))
  | inr memory ↦ memory
]
