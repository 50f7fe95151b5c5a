use Rattle.std.proofs.lemmas.Result.{IfOk-from_err}
use Rattle.std.proofs.Common.{◌≡◌, ◌++◌, ◌∷◌, [], ℕ, length, get_or, sym, ap, ◌∙◌, subst}
use Rattle.cat_model.specs.Item.{Field}
use Rattle.cat_items.specs.Kinds.{field_kind_of}
use Rattle.cat_merge.specs.Fields.{kept_rows, IsMergedColumn, AreFirstColumns}
use Rattle.cat_merge.proofs.Sealed.{column_more}
use Rattle.cat_merge.proofs.columns.add_column.Goals as goal

pub returns-clause-columns : goal.returns-clause-columns
returns-clause-columns c =
    let g : Field = c.index-fields-index.result in
    let at : c.len-index.result ≡ length c.args.columns.now.items = c.len-index.ensures ∙ c.args.columns.now.ok.0 in
    subst (AreFirstColumns c.args.fields.now (kept_rows c.args.inputs.now)) (sym (c.in_ok-push.ensures.items ∙ ap (λ l. l ++ c.in_ok-column.column ∷ []) c.reserve.ensures.items))
    (column_more c.args.fields.now (kept_rows c.args.inputs.now) c.args.columns.now.items c.in_ok-column.column (field_kind_of c.kind-kind.result) g
    (c.kind-kind.ensures ∙ ap (λ (f : Field). f.kind) c.index-fields-index.is ∙ ap (λ (n : ℕ). (get_or c.args.fields.now n g).kind) at) c.requires.left c.requires.columns
    (subst (λ n. IsMergedColumn (field_kind_of c.kind-kind.result) n (kept_rows c.args.inputs.now) c.in_ok-column.column) at c.in_ok-column.ensures))

pub returns-in_err-reserve : goal.returns-in_err-reserve
returns-in_err-reserve c =
    record {
      columns = subst (AreFirstColumns c.args.fields.now (kept_rows c.args.inputs.now)) (sym c.reserve.ensures.items) c.requires.columns;
      orders = c.requires.orders;
      more = IfOk-from_err _ _ c.from_residual.ensures.0;
    }

pub returns-in_err-column : goal.returns-in_err-column
returns-in_err-column c =
    record {
      columns = subst (AreFirstColumns c.args.fields.now (kept_rows c.args.inputs.now)) (sym c.reserve.ensures.items) c.requires.columns;
      orders = c.requires.orders;
      more = IfOk-from_err _ _ c.from_residual-in_err-column.ensures.0;
    }

pub returns-in_err-add_order : goal.returns-in_err-add_order
returns-in_err-add_order c =
    record {
      columns = subst (AreFirstColumns c.args.fields.now (kept_rows c.args.inputs.now)) (sym c.reserve.ensures.items) c.requires.columns;
      orders = c.add_order.ensures.orders;
      more = IfOk-from_err _ _ c.from_residual-in_err-add_order.ensures.0;
    }
