use Rattle.std.proofs.Common.{◌≡◌, filter, get_or, None}
use Rattle.std.specs.List.{range_with_len}
use Rattle.cat_segment.specs.Valued.{same_value}
use Rattle.cat_segment.proofs.missing_rows.missing_rows.Given as goal

abbrev pub invariant-loop-row : goal.invariant-loop-row
invariant-loop-row l = l.rows.items ≡ filter (λ row. same_value None (get_or l.values row None)) (range_with_len 0 l.row)
