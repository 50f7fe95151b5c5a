use Rattle.std.proofs.lemmas.Result.{err_from_is_err_and}
use Rattle.cat_items.proofs.file_parts.Rests.{layout_some, layout_none_heads, layout_none_columns, layout_none_more}
use Rattle.cat_items.proofs.file_parts.reading.check_rows.Goals as goal

pub returns-in_err-pass_heads-clause-err : goal.returns-in_err-pass_heads-clause-err
returns-in_err-pass_heads-clause-err c =
    let p = err_from_is_err_and c.from_residual.result c.from_residual.ensures.1 in
    rw p.1 (λ bytes mid number start fields. layout_none_heads bytes mid c.args.cursor.now number c.args.rows c.args.fields.now start fields c.in_err-pass_heads.ensures)

pub returns-in_err-pass_columns-clause-err : goal.returns-in_err-pass_columns-clause-err
returns-in_err-pass_columns-clause-err c =
    let p = err_from_is_err_and c.from_residual-in_err-pass_columns.result c.from_residual-in_err-pass_columns.ensures.1 in
    rw p.1 (λ bytes mid number start fields. layout_none_columns bytes mid c.args.cursor.now c.pass_heads.new.cursor number c.args.rows c.args.fields.now start fields c.in_ok-pass_heads.ensures c.in_err-pass_columns.ensures)

pub returns-in-Ok-clause-ok : goal.returns-in-Ok-clause-ok
returns-in-Ok-clause-ok c = λ bytes mid number start fields.
    layout_some bytes mid c.args.cursor.now c.pass_heads.new.cursor c.pass_columns.new.cursor number c.args.rows c.args.fields.now start fields c.in_ok-pass_heads.ensures c.in_ok-pass_columns.ensures c.in-Ok.ensures.ok

pub returns-in-Err-clause-err : goal.returns-in-Err-clause-err
returns-in-Err-clause-err c = λ bytes mid number start fields.
    layout_none_more bytes mid c.args.cursor.now c.pass_heads.new.cursor c.pass_columns.new.cursor number c.args.rows c.args.fields.now start fields c.in_ok-pass_heads.ensures c.in_ok-pass_columns.ensures c.in-Err.ensures.err.1
