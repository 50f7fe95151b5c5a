use Rattle.std.proofs.Common.{◌≡◌, ◌∷◌, ◌+◌, drop, ap, subst, sym, ◌∙◌, Some, None}
use Rattle.std.proofs.lemmas.Result.{err_from_is_err_and}
use Rattle.std.proofs.lemmas.List.{drop_more, drop_all}
use Rattle.cat_items.specs.file_parts.Reading.{rest_of}
use Rattle.cat_items.specs.file_parts.Layouts.{column_at, columns_at}
use Rattle.cat_items.proofs.file_parts.Rests.{columns_on, columns_stop, columns_passed}
use Rattle.cat_items.proofs.file_parts.passing.pass_columns.Goals as goal

pub returns-in_err-pass_column : goal.returns-in_err-pass_column
returns-in_err-pass_column c =
    let p = err_from_is_err_and c.from_residual.result c.from_residual.ensures.1 in
    let e : drop c.loop-field.field-index c.args.fields.now ≡ c.field-item.result ∷ drop (c.loop-field.field-index + 1) c.args.fields.now = drop_more c.args.fields.now c.loop-field.field-index c.field-item.result c.loop-field-test.true ∙ ap (λ f. f ∷ drop (c.loop-field.field-index + 1) c.args.fields.now) (sym c.field-item.is) in
    let none = subst (λ k. rest_of (column_at k c.args.rows c.loop-field.cursor) ≡ None) c.kind.ensures c.in_err-pass_column.ensures in
    rw p.1 (columns_stop (drop c.loop-field.field-index c.args.fields.now) (drop (c.loop-field.field-index + 1) c.args.fields.now) c.args.rows c.field-item.result c.loop-field.cursor (rest_of (columns_at c.args.rows c.args.fields.now c.args.cursor.now)) e none c.loop-field.invariant)

pub loop-field-preserved : goal.loop-field-preserved
loop-field-preserved c =
    let e : drop c.loop-field.field-index c.args.fields.now ≡ c.field-item.result ∷ drop (c.loop-field.field-index + 1) c.args.fields.now = drop_more c.args.fields.now c.loop-field.field-index c.field-item.result c.loop-field-test.true ∙ ap (λ f. f ∷ drop (c.loop-field.field-index + 1) c.args.fields.now) (sym c.field-item.is) in
    let one = subst (λ k. rest_of (column_at k c.args.rows c.loop-field.cursor) ≡ Some c.pass_column.new.cursor) c.kind.ensures c.in_ok-pass_column.ensures in
    columns_on (drop c.loop-field.field-index c.args.fields.now) (drop (c.loop-field.field-index + 1) c.args.fields.now) c.args.rows c.field-item.result c.loop-field.cursor c.pass_column.new.cursor (rest_of (columns_at c.args.rows c.args.fields.now c.args.cursor.now)) e one c.loop-field.invariant

pub returns : goal.returns
returns c = columns_passed (drop c.loop-field.field-index c.args.fields.now) c.args.rows c.loop-field.cursor (rest_of (columns_at c.args.rows c.args.fields.now c.args.cursor.now)) (drop_all c.loop-field.field-index c.args.fields.now c.loop-field-test.false) c.loop-field.invariant
