use Rattle.std.proofs.Common.{◌≡◌, ◌∷◌, [], map, drop, ap, subst, Some, ◌+◌, sym, ◌∙◌}
use Rattle.std.proofs.lemmas.Result.{err_from_is_err_and}
use Rattle.std.proofs.lemmas.List.{map_push, drop_more, drop_all}
use Rattle.std.specs.List.{All}
use Rattle.std.proofs.lemmas.List.Elements.{All-append, All-cons, All-nil}
use Rattle.cat_items.specs.file_parts.Reading.{Fails}
use Rattle.cat_items.specs.file_parts.Layouts.{column_at, columns_at}
use Rattle.cat_items.specs.file_parts.Parts.{column_in, IsColumnParts}
use Rattle.cat_items.proofs.file_parts.Loop.{cols_go_on, cols_end, cols_done}
use Rattle.cat_items.proofs.file_parts.columns.read_columns.Goals as goal

pub returns-in_err-one-clause-gives : goal.returns-in_err-one-clause-gives
returns-in_err-one-clause-gives c =
    let p = err_from_is_err_and c.from_residual.result c.from_residual.ensures.1 in
    let e : drop c.loop-field.field-index c.args.fields.now ≡ c.field-item.result ∷ drop (c.loop-field.field-index + 1) c.args.fields.now = drop_more c.args.fields.now c.loop-field.field-index c.field-item.result c.loop-field-test.true ∙ ap (λ f. f ∷ drop (c.loop-field.field-index + 1) c.args.fields.now) (sym (c.field-item.is)) in
    rw (p.1, p.2) (cols_end c.in_err-one.field-0.0 (map column_in c.loop-field.out.items) (drop c.loop-field.field-index c.args.fields.now) (drop (c.loop-field.field-index + 1) c.args.fields.now) c.args.rows c.field-item.result c.loop-field.cursor (columns_at c.args.rows c.args.fields.now c.args.cursor.now) e
    (subst (λ k. Fails c.in_err-one.field-0.0 (column_at k c.args.rows c.loop-field.cursor)) c.kind.ensures c.in_err-one.ensures.gives) c.loop-field.invariant.read)

pub loop-field-preserved : goal.loop-field-preserved
loop-field-preserved c =
    let e : drop c.loop-field.field-index c.args.fields.now ≡ c.field-item.result ∷ drop (c.loop-field.field-index + 1) c.args.fields.now = drop_more c.args.fields.now c.loop-field.field-index c.field-item.result c.loop-field-test.true ∙ ap (λ f. f ∷ drop (c.loop-field.field-index + 1) c.args.fields.now) (sym (c.field-item.is)) in
    let one = subst (λ k. column_at k c.args.rows c.loop-field.cursor ≡ Some (column_in c.in_ok-one.one, c.read_column.new.cursor)) c.kind.ensures c.in_ok-one.ensures.gives in
    record {
      read = rw (c.in_ok-push.ensures.items, map_push column_in c.loop-field.out.items c.in_ok-one.one)
          (cols_go_on (map column_in c.loop-field.out.items) (drop c.loop-field.field-index c.args.fields.now) (drop (c.loop-field.field-index + 1) c.args.fields.now) c.args.rows c.field-item.result c.loop-field.cursor (column_in c.in_ok-one.one) c.read_column.new.cursor (columns_at c.args.rows c.args.fields.now c.args.cursor.now) e one c.loop-field.invariant.read);
      formed = subst (λ xs. All IsColumnParts xs) (sym c.in_ok-push.ensures.items) (All-append IsColumnParts c.loop-field.out.items (c.in_ok-one.one ∷ []) c.loop-field.invariant.formed (All-cons IsColumnParts c.in_ok-one.one [] c.in_ok-one.ensures.formed (All-nil IsColumnParts)));
    }

pub returns-clause-gives : goal.returns-clause-gives
returns-clause-gives c = cols_done (map column_in c.loop-field.out.items) (drop c.loop-field.field-index c.args.fields.now) c.args.rows c.loop-field.cursor (columns_at c.args.rows c.args.fields.now c.args.cursor.now) (drop_all c.loop-field.field-index c.args.fields.now c.loop-field-test.false) c.loop-field.invariant.read
