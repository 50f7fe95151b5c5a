use Rattle.std.proofs.Common.{◌≡◌, ◌++◌, map, take}
use Rattle.std.specs.List.{flat_map}
use Rattle.cat_model.specs.Layout.{spelled_column}
use Rattle.cat_segment.specs.Laid.{laid_in}
use Rattle.cat_segment.proofs.encoding.put_columns.Given as goal

abbrev pub invariant-loop-column : goal.invariant-loop-column
invariant-loop-column l = l.out.items ≡ l.fn.out.items ++ flat_map spelled_column (take l.column-index (map laid_in l.columns))
