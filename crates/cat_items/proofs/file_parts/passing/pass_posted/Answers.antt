use Rattle.std.proofs.Common.{ap}
use Rattle.std.proofs.lemmas.Result.{err_from_is_err_and}
use Rattle.cat_items.specs.file_parts.Layouts.{list_at, posted_at}
use Rattle.cat_items.specs.file_parts.Reading.{rest_of}
use Rattle.cat_items.proofs.file_parts.Rests.{pass_as, posted_rest, posted_none}
use Rattle.cat_items.proofs.file_parts.passing.pass_posted.Goals as goal

pub returns-in_err-take_text : goal.returns-in_err-take_text
returns-in_err-take_text c =
    let p = err_from_is_err_and c.from_residual.result c.from_residual.ensures.1 in
    rw p.1 (posted_none c.args.cursor.now (ap rest_of c.in_err-take_text.ensures))

pub returns : goal.returns
returns c =
    pass_as c.pass_list.new.cursor c.pass_list.result (posted_at c.args.cursor.now) (list_at c.take_text.new.cursor)
    (posted_rest c.args.cursor.now c.take_text.new.cursor (ap rest_of c.in_ok-take_text.ensures)) c.pass_list.ensures
