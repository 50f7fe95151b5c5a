use Rattle.std.proofs.lemmas.List.{append-nil}
use Rattle.std.proofs.lemmas.Result.{IfOk-from_err}
use Rattle.std.proofs.Common.{◌<◌, ◌++◌, ◌∷◌, [], List, ℕ, length, map, get_or, sym, ap, ◌∙◌, arith}
use Rattle.std.specs.Prelude.{All, Contains, slice_index}
use Rattle.cat_model.specs.Layout.{ordinal_in}
use Rattle.cat_model.specs.Ordinals.{dictionary_of}
use Rattle.cat_columns.proofs.Laid.{rows_there}
use Rattle.cat_merge.proofs.Read.{row_kept, row_left, selected_at}
use Rattle.cat_merge.proofs.Recoded.{labels_moved}
use Rattle.cat_merge.proofs.label_column.add_rows.Goals as goal
use Rattle.cat_merge.proofs.label_column.add_rows.Goals.{then-is_live+in_ok-push_found, else-is_live}

pub loop-row-preserved : goal.loop-row-preserved
loop-row-preserved c = elim c.if-is_live.branch [
  | then-is_live+in_ok-push_found w ↦
      let within : c.loop-row.row < length c.args.labels.now = omega arith in
      w.rows-is
      ∙ row_kept (map (ordinal_in c.args.words.now)) c.args.live.now c.args.labels.now c.args.rows.now c.loop-row.rows w.push_found.new.self c.loop-row.row [] c.requires.long within
      c.loop-row.invariant (sym c.is_live.ensures ∙ w.if-is_live.true)
      (w.in_ok-push_found.ensures.ok ∙ ap (λ (l : List ℕ). c.loop-row.rows ++ l ∷ [])
      (ap (map (slice_index c.args.ordinals.now)) w.ordinals.ensures.laid
      ∙ labels_moved c.args.words.now (dictionary_of c.args.labels.now) c.args.ordinals.now (get_or c.args.labels.now c.loop-row.row []) c.requires.ordinals
      (rows_there c.args.labels.now c.loop-row.row [] within)
      (selected_at (All (Contains c.args.words.now)) c.args.live.now c.args.labels.now c.loop-row.row [] c.requires.there within (sym c.is_live.ensures ∙ w.if-is_live.true))))
  | else-is_live w ↦
      row_left (map (ordinal_in c.args.words.now)) c.args.live.now c.args.labels.now c.args.rows.now c.loop-row.rows c.if-is_live.rows c.loop-row.row [] c.requires.long (omega arith)
      c.loop-row.invariant (sym c.is_live.ensures ∙ w.if-is_live.false) w.rows-is
]

pub loop-row-init : goal.loop-row-init
loop-row-init c = sym (append-nil c.args.rows.now)

pub returns-in_err-push_found : goal.returns-in_err-push_found
returns-in_err-push_found c = IfOk-from_err _ _ c.from_residual.ensures.0
