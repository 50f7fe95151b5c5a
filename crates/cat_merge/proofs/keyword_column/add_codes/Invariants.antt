use Rattle.std.proofs.Common.{◌≡◌, ◌++◌, map, take}
use Rattle.cat_model.specs.Layout.{code_in}
use Rattle.cat_model.specs.View.{selected}
use Rattle.cat_merge.proofs.keyword_column.add_codes.Given as goal

abbrev pub invariant-loop-row : goal.invariant-loop-row
invariant-loop-row l = l.codes.items ≡ l.initial.codes.items ++ map (code_in l.words) (selected (take l.row l.live) (take l.row l.values))
