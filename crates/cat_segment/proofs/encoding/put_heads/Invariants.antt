use Rattle.std.proofs.Common.{◌≡◌, ◌++◌, map, take}
use Rattle.std.specs.List.{flat_map}
use Rattle.cat_model.specs.Layout.{spelled_head, head_of}
use Rattle.cat_segment.proofs.encoding.put_heads.Given as goal

abbrev pub invariant-loop-row : goal.invariant-loop-row
invariant-loop-row l = l.out.items ≡ l.fn.out.items ++ flat_map spelled_head (take l.row (map head_of l.segment.rows))
