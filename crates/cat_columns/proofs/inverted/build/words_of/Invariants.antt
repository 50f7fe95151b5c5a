use Rattle.std.proofs.Common.{◌≡◌, ◌++◌, map}
use Rattle.std.specs.Map.{keys_of}
use Rattle.cat_columns.proofs.inverted.build.words_of.Given as goal

abbrev pub invariant-loop-word : goal.invariant-loop-word
invariant-loop-word l = l.words.items ++ map (λ k. k.now) l.word-iterator ≡ map (λ k. k.now) (keys_of l.postings.entries)
