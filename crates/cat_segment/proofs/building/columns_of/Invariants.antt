use Rattle.std.proofs.Common.{◌≡◌, ◌<◌, ℕ, map, Some}
use Rattle.std.specs.List.{range_with_len}
use Rattle.cat_segment.specs.Contents.{contents_of}
use Rattle.cat_segment.specs.Fields.{contents_of_rows, AreFitting}
use Rattle.cat_segment.proofs.building.columns_of.Given as goal

abbrev pub invariant-loop-index : goal.invariant-loop-index
invariant-loop-index l = record {
  same : map (λ c. map (λ x. Some x) (contents_of c)) l.columns.items ≡ map (λ k. contents_of_rows k l.rows) (range_with_len 0 l.index);
  fitting : (k : ℕ) → k < l.index → AreFitting k l.rows;
}
