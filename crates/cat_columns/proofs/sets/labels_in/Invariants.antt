use Rattle.std.proofs.Common.{◌≡◌, take}
use Rattle.std.specs.List.{list_any, flat_map}
use Rattle.cat_model.specs.Text.{Text, same_text}
use Rattle.cat_columns.specs.Columns.{has_text}
use Rattle.cat_columns.proofs.sets.labels_in.Given as goal

abbrev pub invariant-loop-row : goal.invariant-loop-row
invariant-loop-row l = (text : Text) → has_text text l.labels ≡ list_any (same_text text) (flat_map (λ row. row.now) (take l.row-index l.rows))
