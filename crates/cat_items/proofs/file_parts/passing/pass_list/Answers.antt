use Rattle.std.proofs.lemmas.Result.{err_from_is_err_and}
use Rattle.cat_items.specs.file_parts.Layouts.{list_at}
use Rattle.cat_items.specs.file_parts.Reading.{many_at, u32_at}
use Rattle.cat_items.proofs.file_parts.Rests.{pass_as, list_rest, list_none}
use Rattle.cat_items.proofs.file_parts.passing.pass_list.Goals as goal

pub returns-in_err-count : goal.returns-in_err-count
returns-in_err-count c =
    let p = err_from_is_err_and c.from_residual.result c.from_residual.ensures.1 in
    rw p.1 (list_none c.args.cursor.now c.in_err-count.ensures)

pub returns : goal.returns
returns c =
    pass_as c.pass_numbers.new.cursor c.pass_numbers.result (list_at c.args.cursor.now) (many_at u32_at c.in_ok-count.count c.take_u32.new.cursor)
    (list_rest c.args.cursor.now c.take_u32.new.cursor c.in_ok-count.count c.in_ok-count.ensures) c.pass_numbers.ensures
