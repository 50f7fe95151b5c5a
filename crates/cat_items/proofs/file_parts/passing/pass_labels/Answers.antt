use Rattle.std.proofs.Common.{◌∙◌}
use Rattle.std.proofs.lemmas.Result.{err_from_is_err_and}
use Rattle.cat_model.specs.Item.{Kind}
use Rattle.cat_items.specs.file_parts.Layouts.{column_at, list_at, is_label}
use Rattle.cat_items.specs.file_parts.Reading.{many_at, tested_text_at}
use Rattle.cat_items.proofs.file_parts.Rests.{pass_as, counted_rest, counted_none, labels_rest, labels_none}
use Rattle.cat_items.proofs.file_parts.passing.pass_labels.Goals as goal

pub returns-in_err-count : goal.returns-in_err-count
returns-in_err-count c =
    let p = err_from_is_err_and c.from_residual.result c.from_residual.ensures.1 in
    rw p.1 (labels_none c.args.rows c.args.cursor.now (counted_none (tested_text_at is_label) c.args.cursor.now c.in_err-count.ensures))

pub returns-in_err-pass_texts : goal.returns-in_err-pass_texts
returns-in_err-pass_texts c =
    let p = err_from_is_err_and c.from_residual-in_err-pass_texts.result c.from_residual-in_err-pass_texts.ensures.1 in
    rw p.1 (labels_none c.args.rows c.args.cursor.now (counted_rest (tested_text_at is_label) c.args.cursor.now c.take_u32.new.cursor c.in_ok-count.count c.in_ok-count.ensures ∙ c.in_err-pass_texts.ensures))

pub returns : goal.returns
returns c =
    pass_as c.pass_lists.new.cursor c.pass_lists.result (column_at Kind.facet c.args.rows c.args.cursor.now) (many_at list_at c.args.rows c.pass_texts.new.cursor)
    (labels_rest c.args.rows c.args.cursor.now c.take_u32.new.cursor c.pass_texts.new.cursor c.in_ok-count.count c.in_ok-count.ensures c.in_ok-pass_texts.ensures) c.pass_lists.ensures
