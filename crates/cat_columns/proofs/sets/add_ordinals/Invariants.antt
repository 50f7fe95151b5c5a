use Rattle.std.proofs.Common.{◌≡◌, ◌<◌, ◌++◌, take, map, length}
use Rattle.std.specs.Prelude.{All}
use Rattle.cat_model.specs.Ordinals.{text_at}
use Rattle.cat_columns.proofs.sets.add_ordinals.Given as goal

abbrev pub invariant-loop-label : goal.invariant-loop-label
invariant-loop-label l = (map (text_at l.dictionary) l.ordinals.items ≡ map (text_at l.dictionary) l.fn.ordinals.items ++ take l.label-index l.row) × All (λ o. o < length l.dictionary) l.ordinals.items
