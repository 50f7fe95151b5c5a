use Rattle.std.proofs.lemmas.Result.{err_from_is_err_and}
use Rattle.cat_model.specs.Item.{Kind}
use Rattle.cat_items.specs.file_parts.Layouts.{posted_at, column_at}
use Rattle.cat_items.specs.file_parts.Reading.{many_at}
use Rattle.cat_items.proofs.file_parts.Rests.{pass_as, words_rest, words_none}
use Rattle.cat_items.proofs.file_parts.passing.pass_words.Goals as goal

pub returns-in_err-count : goal.returns-in_err-count
returns-in_err-count c =
    let p = err_from_is_err_and c.from_residual.result c.from_residual.ensures.1 in
    λ rows. rw p.1 (words_none rows c.args.cursor.now c.in_err-count.ensures)

pub returns : goal.returns
returns c = λ rows.
    pass_as c.pass_postings.new.cursor c.pass_postings.result (column_at Kind.text rows c.args.cursor.now) (many_at posted_at c.in_ok-count.count c.take_u32.new.cursor)
    (words_rest rows c.args.cursor.now c.take_u32.new.cursor c.in_ok-count.count c.in_ok-count.ensures) c.pass_postings.ensures
