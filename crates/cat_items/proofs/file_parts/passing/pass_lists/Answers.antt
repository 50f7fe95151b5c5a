use Rattle.std.proofs.lemmas.Result.{err_from_is_err_and}
use Rattle.cat_items.specs.file_parts.Reading.{many_at, rest_of}
use Rattle.cat_items.specs.file_parts.Layouts.{list_at}
use Rattle.cat_items.proofs.file_parts.Rests.{passes_on, stops_here, passed_all}
use Rattle.cat_items.proofs.file_parts.passing.pass_lists.Goals as goal

pub returns-in_err-pass_list : goal.returns-in_err-pass_list
returns-in_err-pass_list c =
    let p = err_from_is_err_and c.from_residual.result c.from_residual.ensures.1 in
    rw p.1 (stops_here list_at c.args.count c.loop.counter c.loop.cursor (rest_of (many_at list_at c.args.count c.args.cursor.now)) c.loop-test.true (c.in_err-pass_list.ensures) c.loop.invariant)

pub loop-preserved : goal.loop-preserved
loop-preserved c = passes_on list_at c.args.count c.loop.counter c.loop.cursor _ (rest_of (many_at list_at c.args.count c.args.cursor.now)) c.loop-test.true (c.in_ok-pass_list.ensures) c.loop.invariant

pub returns : goal.returns
returns c = passed_all list_at c.args.count c.loop.counter c.loop.cursor (rest_of (many_at list_at c.args.count c.args.cursor.now)) c.loop-test.false c.loop.invariant
