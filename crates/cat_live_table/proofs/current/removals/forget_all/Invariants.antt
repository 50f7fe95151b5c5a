use Rattle.std.proofs.Common.{◌≡◌, take}
use Rattle.std.specs.HashMap.{get_by_text}
use Rattle.std.specs.List.{flat_map}
use Rattle.cat_model.specs.Text.{Text}
use Rattle.cat_live_table.specs.current.Places.{forgotten}
use Rattle.cat_live_table.specs.current.Removals.{lost}
use Rattle.cat_live_table.proofs.current.removals.forget_all.Given as goal

abbrev pub invariant-loop-removal : goal.invariant-loop-removal
invariant-loop-removal l = (id : Text) → get_by_text l.places id ≡ forgotten (flat_map lost (take l.removal-index l.removals)) id (get_by_text l.fn.places id)
