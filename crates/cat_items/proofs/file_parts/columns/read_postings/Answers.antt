use Rattle.std.proofs.Common.{◌≡◌, ◌≤◌, ◌∷◌, [], length, ap, ◌∙◌, arith, length-append}
use Rattle.std.proofs.lemmas.Result.{err_from_is_err_and}
use Rattle.cat_model.specs.Layout.{pieces, paired_postings}
use Rattle.cat_items.specs.file_parts.Reading.{many_at, tested_text_at, with_front}
use Rattle.cat_items.specs.file_parts.Layouts.{is_word, list_at, posted_at}
use Rattle.cat_items.proofs.file_parts.Loop.{fails_none, goes_on, ends, is_done}
use Rattle.cat_items.proofs.file_parts.Pieces.{front_none, read_behind, posted_here, posted_not_word, posted_not_list, postings_push, ends_push}
use Rattle.cat_items.proofs.file_parts.columns.read_postings.Goals as goal

pub returns-in_err-word-clause-gives : goal.returns-in_err-word-clause-gives
returns-in_err-word-clause-gives c =
    let p = err_from_is_err_and c.from_residual.result c.from_residual.ensures.1 in
    rw (p.1, p.2) (ends posted_at c.in_err-word.field-0.0 (paired_postings c.loop.words.items (pieces 0 c.loop.ends.items c.loop.rows.items)) c.args.count c.loop.counter c.loop.cursor (many_at posted_at c.args.count c.args.cursor.now) c.loop-test.true
    (fails_none c.in_err-word.field-0.0 (tested_text_at is_word c.loop.cursor) (posted_at c.loop.cursor) c.in_err-word.ensures (posted_not_word c.loop.cursor)) c.loop.invariant.read)

pub returns-in_err-read_list-clause-gives : goal.returns-in_err-read_list-clause-gives
returns-in_err-read_list-clause-gives c =
    let p = err_from_is_err_and c.from_residual-in_err-read_list.result c.from_residual-in_err-read_list.ensures.1 in
    rw (p.1, p.2) (ends posted_at c.in_err-read_list.field-0.0 (paired_postings c.loop.words.items (pieces 0 c.loop.ends.items c.loop.rows.items)) c.args.count c.loop.counter c.loop.cursor (many_at posted_at c.args.count c.args.cursor.now) c.loop-test.true
    (fails_none c.in_err-read_list.field-0.0 (with_front c.loop.rows.items (list_at c.read_text.new.cursor)) (posted_at c.loop.cursor) c.in_err-read_list.ensures
    (λ h. posted_not_list c.loop.cursor c.read_text.new.cursor c.in_ok-word.word c.in_ok-word.ensures (front_none c.loop.rows.items (list_at c.read_text.new.cursor) h))) c.loop.invariant.read)

pub loop-preserved : goal.loop-preserved
loop-preserved c =
    let b = read_behind c.loop.rows.items c.read_list.new.out.items c.read_list.new.cursor (list_at c.read_text.new.cursor) c.in_ok-read_list.ensures in
    let counted : c.in_ok-end.end ≡ length c.read_list.new.out.items = c.in_ok-end.ensures ∙ ap length c.deref.ensures.value in
    let grown : length c.loop.rows.items ≤ c.in_ok-end.end = omega (arith, counted, ap length b.is, length-append c.loop.rows.items b.more) in
    let pushed = postings_push c.loop.words.items c.loop.ends.items c.loop.rows.items c.in_ok-word.word b.more c.read_list.new.out.items c.in_ok-end.end c.loop.invariant.even c.loop.invariant.ends b.is counted in
    let one = posted_here c.loop.cursor c.read_text.new.cursor c.read_list.new.cursor c.in_ok-word.word b.more c.in_ok-word.ensures b.read in
    record {
      read = rw (c.in_ok-push.ensures.items, c.in_ok-push-2.ensures.items, pushed)
          (goes_on posted_at (paired_postings c.loop.words.items (pieces 0 c.loop.ends.items c.loop.rows.items)) c.args.count c.loop.counter c.loop.cursor (record { word = c.in_ok-word.word; rows = b.more }) c.read_list.new.cursor (many_at posted_at c.args.count c.args.cursor.now) c.loop-test.true one c.loop.invariant.read);
      even = rw (c.in_ok-push.ensures.items, c.in_ok-push-2.ensures.items) (omega (arith, length-append c.loop.ends.items (c.in_ok-end.end ∷ []), length-append c.loop.words.items (c.in_ok-word.word ∷ []), c.loop.invariant.even));
      ends = rw (c.in_ok-push-2.ensures.items, ← counted) (ends_push 0 c.loop.ends.items (length c.loop.rows.items) c.in_ok-end.end grown c.loop.invariant.ends);
      few = omega (arith, counted);
    }

pub returns-clause-gives : goal.returns-clause-gives
returns-clause-gives c = is_done posted_at (paired_postings c.loop.words.items (pieces 0 c.loop.ends.items c.loop.rows.items)) c.args.count c.loop.counter c.loop.cursor (many_at posted_at c.args.count c.args.cursor.now) c.loop-test.false c.loop.invariant.read
