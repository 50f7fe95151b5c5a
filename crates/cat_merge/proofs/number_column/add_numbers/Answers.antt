use Rattle.std.proofs.Common.{◌++◌, ◌∷◌, [], None, sym, ap, ◌∙◌, arith}
use Rattle.std.proofs.lemmas.List.{append-nil, map-id}
use Rattle.cat_model.specs.View.{selected}
use Rattle.cat_merge.proofs.Read.{row_kept, row_left, rows_all}
use Rattle.cat_merge.proofs.number_column.add_numbers.Goals as goal
use Rattle.cat_merge.proofs.number_column.add_numbers.Goals.{then-is_live+in_ok-push, else-is_live}

pub loop-row-init : goal.loop-row-init
loop-row-init c = sym (append-nil c.args.numbers.now.items)

pub loop-row-preserved : goal.loop-row-preserved
loop-row-preserved c = elim c.if-is_live.branch [
  | then-is_live+in_ok-push w ↦
      ap (λ v. v.items) w.numbers-is
      ∙ row_kept (λ n. n) c.args.live.now c.args.values.now c.args.numbers.now.items c.loop-row.numbers.items w.push.new.self.items c.loop-row.row None c.requires (omega arith) c.loop-row.invariant
      (sym c.is_live.ensures ∙ w.if-is_live.true) (w.in_ok-push.ensures.items ∙ ap (λ n. c.loop-row.numbers.items ++ n ∷ []) w.value.ensures)
  | else-is_live w ↦
      row_left (λ n. n) c.args.live.now c.args.values.now c.args.numbers.now.items c.loop-row.numbers.items c.if-is_live.numbers.items c.loop-row.row None c.requires (omega arith) c.loop-row.invariant
      (sym c.is_live.ensures ∙ w.if-is_live.false) (ap (λ v. v.items) w.numbers-is)
]

pub returns : goal.returns
returns c =
    rows_all (λ n. n) c.args.live.now c.args.values.now c.args.numbers.now.items c.loop-row.numbers.items c.loop-row.row c.requires (omega arith) c.loop-row.invariant
    ∙ ap (λ l. c.args.numbers.now.items ++ l) (map-id (selected c.args.live.now c.args.values.now))
