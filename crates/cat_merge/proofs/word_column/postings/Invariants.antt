use Rattle.std.proofs.Common.{◌≡◌, map, take}
use Rattle.cat_model.specs.Ordinals.{dictionary_of, postings_of}
use Rattle.cat_merge.proofs.word_column.postings.Given as goal

abbrev pub invariant-loop-ordinal : goal.invariant-loop-ordinal
invariant-loop-ordinal l = l.postings ≡ map (λ w. postings_of w l.terms) (take l.ordinal (dictionary_of l.terms))
