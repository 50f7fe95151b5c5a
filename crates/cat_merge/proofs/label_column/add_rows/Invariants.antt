use Rattle.std.proofs.Common.{◌≡◌, ◌++◌, map, take}
use Rattle.cat_model.specs.Layout.{ordinal_in}
use Rattle.cat_model.specs.View.{selected}
use Rattle.cat_merge.proofs.label_column.add_rows.Given as goal

abbrev pub invariant-loop-row : goal.invariant-loop-row
invariant-loop-row l = l.rows ≡ l.initial.rows ++ map (map (ordinal_in l.words)) (selected (take l.row l.live) (take l.row l.labels))
