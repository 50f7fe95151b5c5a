use Rattle.std.proofs.Common.{◌≡◌, ◌≤◌, length, ap, ◌∙◌, arith, length-append}
use Rattle.std.proofs.lemmas.Result.{err_from_is_err_and}
use Rattle.cat_model.specs.Layout.{pieces}
use Rattle.cat_items.specs.file_parts.Reading.{many_at, with_front}
use Rattle.cat_items.specs.file_parts.Layouts.{list_at}
use Rattle.cat_items.proofs.file_parts.Loop.{fails_none, goes_on, ends, is_done}
use Rattle.cat_items.proofs.file_parts.Pieces.{front_none, read_behind, ordinals_push, ends_push}
use Rattle.cat_items.proofs.file_parts.columns.read_ordinals.Goals as goal

pub returns-in_err-read_list-clause-gives : goal.returns-in_err-read_list-clause-gives
returns-in_err-read_list-clause-gives c =
    let p = err_from_is_err_and c.from_residual.result c.from_residual.ensures.1 in
    rw (p.1, p.2) (ends list_at c.in_err-read_list.field-0.0 (pieces 0 c.loop.ends.items c.loop.ordinals.items) c.args.count c.loop.counter c.loop.cursor (many_at list_at c.args.count c.args.cursor.now) c.loop-test.true
    (fails_none c.in_err-read_list.field-0.0 (with_front c.loop.ordinals.items (list_at c.loop.cursor)) (list_at c.loop.cursor) c.in_err-read_list.ensures (front_none c.loop.ordinals.items (list_at c.loop.cursor))) c.loop.invariant.read)

pub loop-preserved : goal.loop-preserved
loop-preserved c =
    let b = read_behind c.loop.ordinals.items c.read_list.new.out.items c.read_list.new.cursor (list_at c.loop.cursor) c.in_ok-read_list.ensures in
    let counted : c.in_ok-end.end ≡ length c.read_list.new.out.items = c.in_ok-end.ensures ∙ ap length c.deref.ensures.value in
    let grown : length c.loop.ordinals.items ≤ c.in_ok-end.end = omega (arith, counted, ap length b.is, length-append c.loop.ordinals.items b.more) in
    let pushed = ordinals_push c.loop.ends.items c.loop.ordinals.items b.more c.read_list.new.out.items c.in_ok-end.end c.loop.invariant.ends b.is counted in
    record {
      read = rw (c.in_ok-push.ensures.items, pushed)
          (goes_on list_at (pieces 0 c.loop.ends.items c.loop.ordinals.items) c.args.count c.loop.counter c.loop.cursor b.more c.read_list.new.cursor (many_at list_at c.args.count c.args.cursor.now) c.loop-test.true b.read c.loop.invariant.read);
      ends = rw (c.in_ok-push.ensures.items, ← counted) (ends_push 0 c.loop.ends.items (length c.loop.ordinals.items) c.in_ok-end.end grown c.loop.invariant.ends);
      few = omega (arith, counted);
    }

pub returns-clause-gives : goal.returns-clause-gives
returns-clause-gives c = is_done list_at (pieces 0 c.loop.ends.items c.loop.ordinals.items) c.args.count c.loop.counter c.loop.cursor (many_at list_at c.args.count c.args.cursor.now) c.loop-test.false c.loop.invariant.read
