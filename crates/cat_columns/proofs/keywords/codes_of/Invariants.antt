use Rattle.std.proofs.Common.{◌≡◌, ◌≤◌, take, map, length, option_map}
use Rattle.std.specs.Prelude.{All}
use Rattle.cat_columns.specs.Columns.{text_of_code}
use Rattle.cat_columns.proofs.keywords.codes_of.Given as goal

abbrev pub invariant-loop-value : goal.invariant-loop-value
invariant-loop-value l = (map (text_of_code l.dictionary) l.codes.items ≡ map (option_map (λ t. t.now)) (take l.value-index l.values)) × All (λ code. code ≤ length l.dictionary) l.codes.items
