use Rattle.std.proofs.Common.{◌≡◌, map, take}
use Rattle.std.specs.List.{flat_map}
use Rattle.cat_model.specs.View.{selected}
use Rattle.cat_merge.specs.Fields.{numbers_under}
use Rattle.cat_merge.proofs.number_column.number_column.Given as goal

abbrev pub invariant-loop-input : goal.invariant-loop-input
invariant-loop-input l = l.numbers.items ≡ map (λ n. n) (flat_map (λ leaf. selected leaf.live (numbers_under l.index leaf.segment.rows)) (take l.input-index l.inputs))
