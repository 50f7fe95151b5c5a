use Rattle.std.proofs.Common.{◌∷◌, [], arith, length-append}
use Rattle.std.proofs.lemmas.Result.{err_from_is_err_and}
use Rattle.cat_base.specs.declared.refusal.Refusal.TheVariants.{Damaged}
use Rattle.cat_items.specs.file_parts.Reading.{many_at}
use Rattle.cat_items.specs.file_parts.Layouts.{head_at}
use Rattle.cat_items.specs.file_parts.Parts.{heads_in}
use Rattle.cat_items.proofs.file_parts.Loop.{goes_on, ends, is_done}
use Rattle.cat_items.proofs.file_parts.Pieces.{heads_push}
use Rattle.cat_items.proofs.file_parts.heads.read_heads.Goals as goal

pub returns-in_err-one-clause-gives : goal.returns-in_err-one-clause-gives
returns-in_err-one-clause-gives c =
    let p = err_from_is_err_and c.from_residual.result c.from_residual.ensures.1 in
    rw (p.1, p.2) (ends head_at Damaged (heads_in c.loop.numbers.items c.loop.ids.items c.loop.lengths.items) c.args.count c.loop.counter c.loop.cursor (many_at head_at c.args.count c.args.cursor.now) c.loop-test.true c.in_err-one.ensures c.loop.invariant.read)

pub loop-preserved : goal.loop-preserved
loop-preserved c =
    let pushed = heads_push c.loop.numbers.items c.loop.ids.items c.loop.lengths.items c.in_ok-one.one.number c.in_ok-one.one.id.now c.in_ok-one.one.length c.loop.invariant.ids c.loop.invariant.lengths in
    record {
      read = rw (c.in_ok-push.ensures.items, c.in_ok-push-2.ensures.items, c.in_ok-push-3.ensures.items, c.in_ok-id.ensures.ok, pushed)
          (goes_on head_at (heads_in c.loop.numbers.items c.loop.ids.items c.loop.lengths.items) c.args.count c.loop.counter c.loop.cursor (record { number = c.in_ok-one.one.number; id = c.in_ok-one.one.id.now; length = c.in_ok-one.one.length }) c.take_head.new.cursor (many_at head_at c.args.count c.args.cursor.now) c.loop-test.true c.in_ok-one.ensures c.loop.invariant.read);
      ids = rw (c.in_ok-push.ensures.items, c.in_ok-push-2.ensures.items) (omega (arith, length-append c.loop.ids.items (c.in_ok-id.id ∷ []), length-append c.loop.numbers.items (c.in_ok-one.one.number ∷ []), c.loop.invariant.ids));
      lengths = rw (c.in_ok-push.ensures.items, c.in_ok-push-3.ensures.items) (omega (arith, length-append c.loop.lengths.items (c.in_ok-one.one.length ∷ []), length-append c.loop.numbers.items (c.in_ok-one.one.number ∷ []), c.loop.invariant.lengths));
    }

pub returns-clause-gives : goal.returns-clause-gives
returns-clause-gives c = is_done head_at (heads_in c.loop.numbers.items c.loop.ids.items c.loop.lengths.items) c.args.count c.loop.counter c.loop.cursor (many_at head_at c.args.count c.args.cursor.now) c.loop-test.false c.loop.invariant.read
