use Rattle.std.proofs.Common.{◌≡◌, ◌++◌, drop, IsUtf8}
use Rattle.std.specs.Prelude.{All}
use Rattle.serde_json.specs.View.{items_view}
use Rattle.cat_items.specs.Reading.{label_texts}
use Rattle.cat_items.proofs.assembly.label_set.Given as goal

abbrev pub invariant-loop-label : goal.invariant-loop-label
invariant-loop-label l = record {
  utf8 : All IsUtf8 l.texts.items;
  done : l.texts.items ++ label_texts (items_view (drop l.label-index l.label-items)) ≡ label_texts (items_view l.label-items);
}
