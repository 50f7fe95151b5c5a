use Rattle.std.proofs.Common.{◌≡◌, map, take}
use Rattle.std.specs.List.{flat_map}
use Rattle.cat_model.specs.Layout.{ordinal_in}
use Rattle.cat_model.specs.View.{selected}
use Rattle.cat_merge.specs.Fields.{labels_under}
use Rattle.cat_merge.proofs.label_column.label_column.Given as goal

abbrev pub invariant-loop-input : goal.invariant-loop-input
invariant-loop-input l = l.rows ≡ map (map (ordinal_in l.words)) (flat_map (λ leaf. selected leaf.live (labels_under l.index leaf.segment.rows)) (take l.input-index l.inputs))
