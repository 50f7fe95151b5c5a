use Rattle.std.proofs.Common.{◌≡◌, ◌||◌, take}
use Rattle.std.specs.List.{list_any}
use Rattle.cat_model.specs.Text.{Text, same_text}
use Rattle.cat_columns.specs.Columns.{has_text}
use Rattle.cat_columns.proofs.gathering.add_texts.Given as goal

abbrev pub invariant-loop-text : goal.invariant-loop-text
invariant-loop-text l = (q : Text) → has_text q l.texts ≡ (has_text q l.fn.texts || list_any (same_text q) (take l.text-index l.row))
