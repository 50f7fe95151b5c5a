use Rattle.std.proofs.Common.{◌≡◌, take, map}
use Rattle.std.specs.Prelude.{All}
use Rattle.serde_json.specs.Find.{get}
use Rattle.serde_json.specs.View.{view}
use Rattle.cat_items.specs.Contents.{field_content_of, IsTyped}
use Rattle.cat_items.specs.Reading.{value_of}
use Rattle.cat_items.proofs.assembly.values_of.Given as goal

abbrev pub invariant-loop-field : goal.invariant-loop-field
invariant-loop-field l = record {
  typed : All (λ x. IsTyped (field_content_of x)) l.values.items;
  done : map field_content_of l.values.items ≡ map (λ f. value_of f.kind (get f.name (view l.root))) (take l.field-index l.fields);
}
