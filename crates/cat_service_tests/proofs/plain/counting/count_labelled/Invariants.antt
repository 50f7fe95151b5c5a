use Rattle.std.proofs.Common.{◌≡◌, ◌≤◌, ◌<◌, take, length, ltb}
use Rattle.std.specs.Prelude.{count_by}
use Rattle.cat_model.specs.Facets.{labels_of}
use Rattle.cat_service_tests.proofs.plain.counting.count_labelled.Given as goal

abbrev pub invariant-loop-hit : goal.invariant-loop-hit
invariant-loop-hit l = record {
  few : l.count ≤ l.hit-index;
  counted : l.count ≡ count_by (λ h. ltb 0 (length (labels_of l.dim h))) (take l.hit-index l.hits);
}
