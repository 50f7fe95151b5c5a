use Rattle.std.proofs.Common.{◌≡◌, ◌++◌, map, take}
use Rattle.std.specs.List.{flat_map}
use Rattle.cat_model.specs.Layout.{ordinal_in, spelled_list, spelled_texts}
use Rattle.cat_model.specs.Ordinals.{dictionary_of}
use Rattle.cat_segment.proofs.encoding.put_labels.Given as goal

abbrev pub invariant-loop-row : goal.invariant-loop-row
invariant-loop-row l = l.out.items ≡ (l.fn.out.items ++ spelled_texts (dictionary_of l.labels)) ++ flat_map spelled_list (take l.row (map (map (ordinal_in (dictionary_of l.labels))) l.labels))
