use Rattle.std.proofs.lemmas.Result.{err_from_is_err_and}
use Rattle.cat_base.specs.declared.refusal.Refusal.TheVariants.{Damaged}
use Rattle.cat_items.specs.file_parts.Reading.{u32_at, many_at, with_front}
use Rattle.cat_items.proofs.file_parts.Loop.{goes_on, ends, is_done}
use Rattle.cat_items.proofs.file_parts.lists.read_onto.Goals as goal

pub returns-in_err-one : goal.returns-in_err-one
returns-in_err-one c =
    let p = err_from_is_err_and c.from_residual.result c.from_residual.ensures.1 in
    rw (p.1, p.2) (ends u32_at Damaged c.loop.out.items c.args.count c.loop.counter c.loop.cursor (with_front c.args.out.now.items (many_at u32_at c.args.count c.args.cursor.now)) c.loop-test.true c.in_err-one.ensures c.loop.invariant)

pub loop-preserved : goal.loop-preserved
loop-preserved c =
    rw c.in_ok-push.ensures.items (goes_on u32_at c.loop.out.items c.args.count c.loop.counter c.loop.cursor c.in_ok-one.one _ (with_front c.args.out.now.items (many_at u32_at c.args.count c.args.cursor.now)) c.loop-test.true c.in_ok-one.ensures c.loop.invariant)

pub returns : goal.returns
returns c = is_done u32_at c.loop.out.items c.args.count c.loop.counter c.loop.cursor (with_front c.args.out.now.items (many_at u32_at c.args.count c.args.cursor.now)) c.loop-test.false c.loop.invariant
