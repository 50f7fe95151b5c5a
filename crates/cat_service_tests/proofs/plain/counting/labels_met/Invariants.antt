use Rattle.std.proofs.Common.{◌≡◌, take}
use Rattle.std.specs.List.{flat_map}
use Rattle.cat_model.specs.Facets.{labels_of}
use Rattle.cat_service_tests.proofs.plain.counting.labels_met.Given as goal

abbrev pub invariant-loop-hit : goal.invariant-loop-hit
invariant-loop-hit l = l.texts.items ≡ flat_map (labels_of l.dim) (take l.hit-index l.hits)
