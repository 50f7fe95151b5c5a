use Rattle.std.proofs.Common.{◌≡◌, ◌≤◌, length}
use Rattle.std.specs.HashMap.{get_by_text, spare}
use Rattle.std.specs.Vec.Iter.{into_iter_items}
use Rattle.cat_model.specs.Text.{Text}
use Rattle.cat_live_table.specs.current.Places.{placed_in_turn}
use Rattle.cat_live_table.proofs.current.places.place_all.Given as goal

-- what is left to note gives what noting all gives, and there is room for it
abbrev pub invariant-loop-placing : goal.invariant-loop-placing
invariant-loop-placing l = record {
  can : (goal.iterator-loop-placing).can_next l.placing-iterator;
  finite : (goal.iterator-loop-placing).is_finite l.placing-iterator;
  room : length (into_iter_items l.placing-iterator) ≤ spare l.places;
  rest : (id : Text) → placed_in_turn (into_iter_items l.placing-iterator) id (get_by_text l.places id) ≡ placed_in_turn l.fn.placings.items id (get_by_text l.fn.places id);
}
