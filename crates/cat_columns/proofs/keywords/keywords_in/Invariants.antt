use Rattle.std.proofs.Common.{◌≡◌, take}
use Rattle.std.specs.List.{list_any, flat_map}
use Rattle.cat_model.specs.Text.{Text, same_text}
use Rattle.cat_columns.specs.Columns.{has_text, texts_behind}
use Rattle.cat_columns.proofs.keywords.keywords_in.Given as goal

abbrev pub invariant-loop-value : goal.invariant-loop-value
invariant-loop-value l = (text : Text) → has_text text l.keywords ≡ list_any (same_text text) (flat_map texts_behind (take l.value-index l.values))
