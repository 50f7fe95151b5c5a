use Rattle.std.proofs.Common.{◌≡◌, ◌<◌, take, map, length}
use Rattle.std.specs.Prelude.{All}
use Rattle.cat_model.specs.Ordinals.{text_at}
use Rattle.cat_columns.proofs.dictionary.Dictionary.remap.Given as goal

abbrev pub invariant-loop-text : goal.invariant-loop-text
invariant-loop-text l = (map (text_at l.self) l.ordinals.items ≡ take l.text-index l.texts) × All (λ o. o < length l.self) l.ordinals.items
