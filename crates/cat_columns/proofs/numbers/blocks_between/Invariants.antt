use Rattle.std.proofs.Common.{◌≡◌}
use Rattle.std.specs.Slice.Iter.{chunks_rest, chunks_size}
use Rattle.cat_columns.specs.Columns.{is_between}
use Rattle.cat_columns.proofs.Packs.{Packed}
use Rattle.cat_columns.proofs.numbers.blocks_between.Given as goal

abbrev pub invariant-loop-chunk : goal.invariant-loop-chunk
invariant-loop-chunk l = record {
  size : chunks_size l.chunk-iterator ≡ 64;
  packed : Packed (is_between l.low l.high) l.values (chunks_rest l.chunk-iterator) l.blocks.items;
}
