use Rattle.std.proofs.Common.{◌≡◌, take, false}
use Rattle.std.specs.List.{All}
use Rattle.cat_model.specs.RowSets.{has_row}
use Rattle.cat_search.proofs.steps.misses.Given as goal

abbrev pub invariant-loop-row : goal.invariant-loop-row
invariant-loop-row l = record {
  count : l.count ≡ l.row-index;
  missed : All (λ row. has_row l.set row ≡ false) (take l.row-index l.rows);
}
