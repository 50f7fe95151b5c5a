use Rattle.std.proofs.Common.{◌∷◌, [], arith, length-append}
use Rattle.std.proofs.lemmas.Result.{err_from_is_err_and}
use Rattle.cat_base.specs.declared.refusal.Refusal.TheVariants.{Damaged}
use Rattle.cat_items.specs.file_parts.Layouts.{field_at}
use Rattle.cat_items.specs.file_parts.Reading.{many_at}
use Rattle.cat_items.proofs.file_parts.Loop.{goes_on, ends, is_done}
use Rattle.cat_items.proofs.file_parts.fields.take_each_field.Goals as goal

pub returns-in_err-one : goal.returns-in_err-one
returns-in_err-one c =
    let p = err_from_is_err_and c.from_residual.result c.from_residual.ensures.1 in
    rw p.1 (ends field_at Damaged c.loop.heads.items c.args.count c.loop.counter c.loop.cursor (many_at field_at c.args.count c.args.cursor.now) c.loop-test.true c.in_err-one.ensures c.loop.invariant.read)

pub loop-preserved : goal.loop-preserved
loop-preserved c = record {
  read = rw c.push.ensures.items (goes_on field_at c.loop.heads.items c.args.count c.loop.counter c.loop.cursor c.in_ok-one.one _ (many_at field_at c.args.count c.args.cursor.now) c.loop-test.true c.in_ok-one.ensures c.loop.invariant.read);
  as_many = rw c.push.ensures.items (omega (arith, length-append c.loop.heads.items (c.in_ok-one.one ∷ []), c.loop.invariant.as_many));
}

pub returns : goal.returns
returns c = is_done field_at c.loop.heads.items c.args.count c.loop.counter c.loop.cursor (many_at field_at c.args.count c.args.cursor.now) c.loop-test.false c.loop.invariant.read
