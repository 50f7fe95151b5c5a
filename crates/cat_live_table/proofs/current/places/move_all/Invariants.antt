use Rattle.std.proofs.Common.{◌≡◌, ◌++◌, map}
use Rattle.std.specs.HashMap.{get_by_text}
use Rattle.cat_model.specs.RowSets.{indices}
use Rattle.cat_model.specs.Text.{Text}
use Rattle.cat_live_table.specs.current.Places.{placed_id_of, standing_in, moved_in_turn}
use Rattle.cat_live_table.proofs.current.Standing.{key_at}
use Rattle.cat_live_table.proofs.current.places.move_all.Given as goal

-- noting the places that are left gives what noting all gives
abbrev pub invariant-loop-row : goal.invariant-loop-row
invariant-loop-row l = record {
  can : (goal.iterator-loop-row).can_next l.row-iterator;
  finite : (goal.iterator-loop-row).is_finite l.row-iterator;
  rows : l.yielded ++ l.row-iterator ≡ indices l.leaf.live;
  rest : (id : Text) → moved_in_turn (map (key_at l.leaf) l.row-iterator) id (get_by_text l.places id)
      ≡ moved_in_turn (map placed_id_of (standing_in l.leaf)) id (get_by_text l.fn.places id);
}
