use Rattle.std.proofs.lemmas.List.{append-nil}
use Rattle.std.proofs.lemmas.Result.{IfOk-from_err}
use Rattle.std.proofs.Common.{◌++◌, ◌∷◌, [], ℕ, get_or, None, sym, ap, ◌∙◌, arith}
use Rattle.std.proofs.lemmas.Grind.{elements}
use Rattle.cat_model.specs.Layout.{code_in}
use Rattle.cat_merge.specs.Coded.{moved_code}
use Rattle.cat_columns.specs.Columns.{DictionaryHas}
use Rattle.cat_columns.proofs.Laid.{keywords_there}
use Rattle.cat_merge.proofs.Read.{row_kept, row_left, selected_at}
use Rattle.cat_merge.proofs.Recoded.{code_within, code_moved, code_there}
use Rattle.cat_merge.proofs.keyword_column.add_codes.Goals as goal
use Rattle.cat_merge.proofs.keyword_column.add_codes.Goals.{then-is_live+in_ok-push, else-is_live}

pub moved_code-requires-clause-within : goal.moved_code-requires-clause-within
moved_code-requires-clause-within c =
    let there = code_there c.args.values.now c.codes-code-items.result.now c.loop-row.row c.codes-code-items.ensures (omega arith) in
    omega (
      arith,
      there.1,
      code_within c.args.words.now c.args.values.now c.args.ordinals.now c.requires.ordinals (get_or c.args.values.now c.loop-row.row None)
          (keywords_there c.args.values.now c.loop-row.row None there.0),
    )

pub loop-row-preserved : goal.loop-row-preserved
loop-row-preserved c = elim c.if-is_live.branch [
  | then-is_live+in_ok-push w ↦
      let there = code_there c.args.values.now c.codes-code-items.result.now c.loop-row.row c.codes-code-items.ensures (omega arith) in
      ap (λ v. v.items) w.codes-is
      ∙ row_kept (code_in c.args.words.now) c.args.live.now c.args.values.now c.args.codes.now.items c.loop-row.codes.items w.push.new.self.items c.loop-row.row None c.requires.long there.0
      c.loop-row.invariant (sym c.is_live.ensures ∙ w.if-is_live.true)
      (w.in_ok-push.ensures.items ∙ ap (λ (n : ℕ). c.loop-row.codes.items ++ n ∷ [])
      (w.moved_code.ensures ∙ ap (moved_code c.args.ordinals.now) there.1
      ∙ code_moved c.args.words.now c.args.values.now c.args.ordinals.now c.requires.ordinals (get_or c.args.values.now c.loop-row.row None)
      (keywords_there c.args.values.now c.loop-row.row None there.0)
      (selected_at (DictionaryHas c.args.words.now) c.args.live.now c.args.values.now c.loop-row.row None c.requires.there there.0 (sym c.is_live.ensures ∙ w.if-is_live.true))))
  | else-is_live w ↦
      let there = code_there c.args.values.now c.codes-code-items.result.now c.loop-row.row c.codes-code-items.ensures (omega arith) in
      row_left (code_in c.args.words.now) c.args.live.now c.args.values.now c.args.codes.now.items c.loop-row.codes.items c.if-is_live.codes.items c.loop-row.row None c.requires.long there.0
      c.loop-row.invariant (sym c.is_live.ensures ∙ w.if-is_live.false) (ap (λ v. v.items) w.codes-is)
]

pub loop-row-init : goal.loop-row-init
loop-row-init c = sym (append-nil c.args.codes.now.items)

pub returns-in_err-push : goal.returns-in_err-push
returns-in_err-push c = IfOk-from_err _ _ c.from_residual.ensures.0

pub is_live-requires : goal.is_live-requires
is_live-requires c = grind (arith, elements)

pub returns : goal.returns
returns c = grind (arith, elements)
