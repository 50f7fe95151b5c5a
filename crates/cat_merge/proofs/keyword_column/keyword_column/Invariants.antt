use Rattle.std.proofs.Common.{◌≡◌, map, take}
use Rattle.std.specs.List.{flat_map}
use Rattle.cat_model.specs.Layout.{code_in}
use Rattle.cat_model.specs.View.{selected}
use Rattle.cat_merge.specs.Fields.{keywords_under}
use Rattle.cat_merge.proofs.keyword_column.keyword_column.Given as goal

abbrev pub invariant-loop-input : goal.invariant-loop-input
invariant-loop-input l = l.codes.items ≡ map (code_in l.words) (flat_map (λ leaf. selected leaf.live (keywords_under l.index leaf.segment.rows)) (take l.input-index l.inputs))
