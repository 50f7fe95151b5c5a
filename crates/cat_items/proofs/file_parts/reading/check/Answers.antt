use Rattle.std.proofs.Common.{Some, sym, ap, ◌∙◌}
use Rattle.std.proofs.lemmas.Result.{err_from_is_err_and, on_ok_weaker, on_err_weaker}
use Rattle.cat_items.proofs.file_parts.Rests.{layout_none_start, layout_none_fields}
use Rattle.cat_items.proofs.file_parts.reading.check.Goals as goal

pub returns-in_err-start-clause-err : goal.returns-in_err-start-clause-err
returns-in_err-start-clause-err c =
    let p = err_from_is_err_and c.from_residual.result c.from_residual.ensures.1 in
    rw p.1 (layout_none_start c.args.cursor.now c.in_err-start.ensures)

pub returns-in_err-fields-clause-err : goal.returns-in_err-fields-clause-err
returns-in_err-fields-clause-err c =
    let p = err_from_is_err_and c.from_residual-in_err-fields.result c.from_residual-in_err-fields.ensures.1 in
    rw p.1 (layout_none_fields c.args.cursor.now c.read_start.new.cursor (c.in_ok-start.start.0, c.in_ok-start.start.1) c.in_ok-start.ensures c.in_err-fields.ensures.found)

pub returns-clause-ok : goal.returns-clause-ok
returns-clause-ok c =
    let fields = c.in_ok-fields.ensures.found ∙ ap (λ fs. Some (fs, c.take_heads.new.cursor)) (sym c.deref.ensures.0) in
    on_ok_weaker c.check_rows.result (λ h. h c.args.cursor.now c.read_start.new.cursor c.in_ok-start.start.0 c.in_ok-start.ensures fields) c.check_rows.ensures.ok

pub returns-clause-err : goal.returns-clause-err
returns-clause-err c =
    let fields = c.in_ok-fields.ensures.found ∙ ap (λ fs. Some (fs, c.take_heads.new.cursor)) (sym c.deref.ensures.0) in
    on_err_weaker c.check_rows.result (λ h. h c.args.cursor.now c.read_start.new.cursor c.in_ok-start.start.0 c.in_ok-start.ensures fields) c.check_rows.ensures.err
