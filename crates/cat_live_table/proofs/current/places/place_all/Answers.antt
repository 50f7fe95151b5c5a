use Rattle.std.proofs.Common.{◌≡◌, ◌∷◌, length, Some, cond, ap, ◌∙◌, string_bytes, arith}
use Rattle.std.specs.HashMap.{get_by_text}
use Rattle.std.specs.Vec.Iter.{into_iter_items}
use Rattle.std.proofs.lemmas.Map.Text.{hash_map_updates_text}
use Rattle.cat_model.specs.Text.{same_text}
use Rattle.cat_live_table.specs.current.Places.{PlacedId, placed_in_turn}
use Rattle.cat_live_table.proofs.current.places.place_all.Goals as goal

pub loop-placing-preserved : goal.loop-placing-preserved
loop-placing-preserved c =
    let done = rw c.unwrap-before.ensures at c.insert-inserted.ensures.updates in
    let steps : into_iter_items c.loop-placing.placing-iterator ≡ c.in-Some.placing ∷ into_iter_items c.next.new.self = c.in-Some.ensures.steps.0 in
    let long = ap length steps in
    record {
      can = tt;
      finite = tt;
      room = omega (arith, long, c.loop-placing.invariant.room, c.insert-inserted.ensures.spare);
      rest = λ id.
          ap (placed_in_turn (into_iter_items c.next.new.self) id)
          (hash_map_updates_text (string_bytes c.placing.inside.id) c.loop-placing.places c.insert-inserted.new.self (Some c.placing.inside.place) done id
          ∙ ap (λ (k : PlacedId). cond (same_text k.id id) (Some k.place) (get_by_text c.loop-placing.places id)) c.placing.view_is)
          ∙ rw steps at (c.loop-placing.invariant.rest id);
    }
