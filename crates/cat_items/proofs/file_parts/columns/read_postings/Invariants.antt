use Rattle.std.proofs.Common.{◌≡◌, ◌-◌, ◌<◌, ◌^◌, length}
use Rattle.cat_model.specs.Layout.{AreEnds, pieces, paired_postings}
use Rattle.cat_items.specs.file_parts.Reading.{many_at, with_front}
use Rattle.cat_items.specs.file_parts.Layouts.{posted_at}
use Rattle.cat_items.proofs.file_parts.columns.read_postings.Given as goal

abbrev pub invariant-loop : goal.invariant-loop
invariant-loop l = record {
  read : with_front (paired_postings l.words.items (pieces 0 l.ends.items l.rows.items)) (many_at posted_at (l.count - l.counter) l.cursor) ≡ many_at posted_at l.count l.fn.cursor;
  even : length l.ends.items ≡ length l.words.items;
  ends : AreEnds 0 l.ends.items (length l.rows.items);
  few : length l.rows.items < 2 ^ 32;
}
