use Rattle.std.proofs.Common.{◌≡◌, ◌++◌, map}
use Rattle.std.specs.HashSet.{keys}
use Rattle.cat_columns.proofs.gathering.dictionary_from.Given as goal

abbrev pub invariant-loop-text : goal.invariant-loop-text
invariant-loop-text l = l.copies.items ++ map (λ k. k.now) l.text-iterator ≡ map (λ k. k.now) (keys l.texts)
