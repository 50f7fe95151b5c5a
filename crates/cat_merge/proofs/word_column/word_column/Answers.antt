use Rattle.std.proofs.Common.{length, ap, ap₂, sym, ◌∙◌}
use Rattle.std.proofs.lemmas.List.{length-map}
use Rattle.cat_columns.proofs.inverted.Told.{posted_is}
use Rattle.cat_model.specs.Layout.{Laid, paired_postings}
use Rattle.cat_model.specs.Ordinals.{dictionary_of, postings_of}
use Rattle.cat_merge.proofs.Cuts.{length-pieces}
use Rattle.cat_merge.proofs.word_column.word_column.Goals as goal

pub returns-clause-cut : goal.returns-clause-cut
returns-clause-cut c = (
  sym (length-pieces 0 c.into_parts-ends.result.0.items c.into_parts-ends.result.1.items)
      ∙ ap length (c.into_parts-ends.ensures.lists ∙ c.in_ok-postings.ensures.ok)
      ∙ length-map (dictionary_of c.args.terms.now) (λ w. postings_of w c.args.terms.now)
      ∙ ap length (sym c.words-words.ensures.value) ∙ ap length (sym c.in_ok-copied.ensures.ok),
  c.into_parts-ends.ensures.ends,
  c.into_parts-ends.ensures.few,
)

pub returns-clause-laid : goal.returns-clause-laid
returns-clause-laid c =
    ap Laid.words
    (ap₂ paired_postings (c.in_ok-copied.ensures.ok ∙ c.words-words.ensures.value) (c.into_parts-ends.ensures.lists ∙ c.in_ok-postings.ensures.ok)
    ∙ posted_is c.args.terms.now)
