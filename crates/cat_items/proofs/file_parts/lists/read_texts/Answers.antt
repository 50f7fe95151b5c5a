use Rattle.std.proofs.lemmas.Result.{err_from_is_err_and}
use Rattle.cat_items.specs.file_parts.Layouts.{fits}
use Rattle.cat_items.specs.file_parts.Reading.{tested_text_at, many_at}
use Rattle.cat_items.proofs.file_parts.Loop.{goes_on, ends, is_done}
use Rattle.cat_items.proofs.file_parts.lists.read_texts.Goals as goal

pub returns-in_err-one : goal.returns-in_err-one
returns-in_err-one c =
    let p = err_from_is_err_and c.from_residual.result c.from_residual.ensures.1 in
    rw (p.1, p.2) (ends (tested_text_at (fits c.args.form)) c.in_err-one.field-0.0 c.loop.out.items c.args.count c.loop.counter c.loop.cursor (many_at (tested_text_at (fits c.args.form)) c.args.count c.args.cursor.now) c.loop-test.true c.in_err-one.ensures c.loop.invariant)

pub loop-preserved : goal.loop-preserved
loop-preserved c =
    rw c.in_ok-push.ensures.items (goes_on (tested_text_at (fits c.args.form)) c.loop.out.items c.args.count c.loop.counter c.loop.cursor c.in_ok-one.one _ (many_at (tested_text_at (fits c.args.form)) c.args.count c.args.cursor.now) c.loop-test.true c.in_ok-one.ensures c.loop.invariant)

pub returns : goal.returns
returns c = is_done (tested_text_at (fits c.args.form)) c.loop.out.items c.args.count c.loop.counter c.loop.cursor (many_at (tested_text_at (fits c.args.form)) c.args.count c.args.cursor.now) c.loop-test.false c.loop.invariant
