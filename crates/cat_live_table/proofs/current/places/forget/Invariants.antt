use Rattle.std.proofs.Common.{◌≡◌, ◌++◌, map}
use Rattle.std.specs.HashMap.{get_by_text}
use Rattle.cat_model.specs.RowSets.{indices}
use Rattle.cat_model.specs.Text.{Text}
use Rattle.cat_model.specs.View.{selected}
use Rattle.cat_live_table.specs.current.Places.{forgotten}
use Rattle.cat_live_table.proofs.current.Standing.{row_at}
use Rattle.cat_live_table.proofs.current.places.forget.Given as goal

-- forgetting the rows that are left gives what forgetting all gives
abbrev pub invariant-loop-row : goal.invariant-loop-row
invariant-loop-row l = record {
  can : (goal.iterator-loop-row).can_next l.row-iterator;
  finite : (goal.iterator-loop-row).is_finite l.row-iterator;
  rows : l.yielded ++ l.row-iterator ≡ indices l.rows;
  rest : (id : Text) → forgotten (map (row_at l.leaf.segment.rows) l.row-iterator) id (get_by_text l.places id)
      ≡ forgotten (selected l.rows l.leaf.segment.rows) id (get_by_text l.fn.places id);
}
