use Rattle.std.proofs.Common.{◌≡◌, ◌≤◌, ◌<◌, take}
use Rattle.std.specs.Prelude.{count_by}
use Rattle.std.specs.List.{list_any}
use Rattle.cat_model.specs.Facets.{labels_of}
use Rattle.cat_model.specs.Text.{same_text}
use Rattle.cat_service_tests.proofs.plain.counting.count_with.Given as goal

abbrev pub invariant-loop-hit : goal.invariant-loop-hit
invariant-loop-hit l = record {
  few : l.count ≤ l.hit-index;
  counted : l.count ≡ count_by (λ h. list_any (same_text l.label) (labels_of l.dim h)) (take l.hit-index l.hits);
}
