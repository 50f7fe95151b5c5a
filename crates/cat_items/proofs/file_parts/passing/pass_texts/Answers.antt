use Rattle.std.proofs.Common.{ap}
use Rattle.std.proofs.lemmas.Result.{err_from_is_err_and}
use Rattle.cat_items.specs.file_parts.Reading.{many_at, tested_text_at, rest_of}
use Rattle.cat_items.specs.file_parts.Layouts.{fits}
use Rattle.cat_items.proofs.file_parts.Rests.{passes_on, stops_here, passed_all}
use Rattle.cat_items.proofs.file_parts.passing.pass_texts.Goals as goal

pub returns-in_err-take_text : goal.returns-in_err-take_text
returns-in_err-take_text c =
    let p = err_from_is_err_and c.from_residual.result c.from_residual.ensures.1 in
    rw p.1 (stops_here (tested_text_at (fits c.args.form)) c.args.count c.loop.counter c.loop.cursor (rest_of (many_at (tested_text_at (fits c.args.form)) c.args.count c.args.cursor.now)) c.loop-test.true (ap rest_of c.in_err-take_text.ensures) c.loop.invariant)

pub loop-preserved : goal.loop-preserved
loop-preserved c = passes_on (tested_text_at (fits c.args.form)) c.args.count c.loop.counter c.loop.cursor _ (rest_of (many_at (tested_text_at (fits c.args.form)) c.args.count c.args.cursor.now)) c.loop-test.true (ap rest_of c.in_ok-take_text.ensures) c.loop.invariant

pub returns : goal.returns
returns c = passed_all (tested_text_at (fits c.args.form)) c.args.count c.loop.counter c.loop.cursor (rest_of (many_at (tested_text_at (fits c.args.form)) c.args.count c.args.cursor.now)) c.loop-test.false c.loop.invariant
