use Rattle.std.proofs.Common.{◌≡◌, ◌++◌, length}
use Rattle.cat_items.specs.file_parts.Parts.{heads_in}
use Rattle.cat_merge.proofs.sealing.unzipped.Given as goal

abbrev pub invariant-loop-row : goal.invariant-loop-row
invariant-loop-row l = record {
  heads : heads_in l.numbers.items l.ids.items l.lengths.items ≡ l.yielded;
  ids : length l.ids.items ≡ length l.numbers.items;
  left : l.fn.kept.items ≡ l.yielded ++ l.row-iterator.rest.items;
  lengths : length l.lengths.items ≡ length l.numbers.items;
}
