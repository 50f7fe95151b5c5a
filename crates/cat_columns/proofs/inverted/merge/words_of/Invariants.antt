use Rattle.std.proofs.Common.{◌≡◌, map, take}
use Rattle.cat_model.specs.Ordinals.{dictionary_of}
use Rattle.cat_columns.proofs.inverted.merge.words_of.Given as goal

abbrev pub invariant-loop-input : goal.invariant-loop-input
invariant-loop-input l = map (λ w. w.now) l.words.items ≡ map (λ p. dictionary_of p.terms.now) (take l.input-index l.inputs)
