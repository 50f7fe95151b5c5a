use Rattle.std.proofs.Common.{◌++◌, ◌∷◌, [], ◌<◌, List, ℕ, length, ap, ap₂, sym, ◌∙◌, arith}
use Rattle.std.proofs.lemmas.List.{map_more}
use Rattle.cat_model.specs.Ordinals.{dictionary_of, postings_of}
use Rattle.cat_merge.proofs.word_column.postings.Goals as goal

pub loop-ordinal-preserved : goal.loop-ordinal-preserved
loop-ordinal-preserved c =
    let within : c.loop-ordinal.ordinal < length (dictionary_of c.args.terms.now) = omega (arith, ap length c.words-words.ensures.value) in
    c.in_ok-push.ensures.ok
    ∙ ap₂ (λ (a : List (List ℕ)) (b : List ℕ). a ++ b ∷ []) c.loop-ordinal.invariant c.postings_at.ensures.value
    ∙ sym (map_more (λ w. postings_of w c.args.terms.now) (dictionary_of c.args.terms.now) c.loop-ordinal.ordinal [] within)
