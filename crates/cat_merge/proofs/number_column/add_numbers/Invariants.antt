use Rattle.std.proofs.Common.{◌≡◌, ◌++◌, map, take}
use Rattle.cat_model.specs.View.{selected}
use Rattle.cat_merge.proofs.number_column.add_numbers.Given as goal

abbrev pub invariant-loop-row : goal.invariant-loop-row
invariant-loop-row l = l.numbers.items ≡ l.initial.numbers.items ++ map (λ n. n) (selected (take l.row l.live) (take l.row l.values))
