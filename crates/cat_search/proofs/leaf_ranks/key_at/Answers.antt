use Rattle.std.proofs.Common.{◌∙◌, sym, ap, inl, inr, slice_get, arith}
use Rattle.std.proofs.lemmas.Grind.{elements}
use Rattle.cat_model.specs.Page.{key_in}
use Rattle.cat_views.specs.cat_segment.Contents.{contents_of}
use Rattle.cat_search.proofs.Ranks.{no_key_in_words, no_key_in_labels}
use Rattle.cat_search.proofs.leaf_ranks.key_at.Goals as goal

pub returns-in-Text : goal.returns-in-Text
returns-in-Text c = elim c.in-Text.is [
  | inl e ↦ no_key_in_words e.0 c.args.row ∙ ap (λ k. key_in (slice_get (contents_of k) c.args.row)) (sym e.1)
  | inr e ↦ no_key_in_labels e.0 c.args.row ∙ ap (λ k. key_in (slice_get (contents_of k) c.args.row)) (sym e.1)
]

pub value-requires : goal.value-requires
value-requires c = grind (arith, elements)

pub value-requires-in-Keyword : goal.value-requires-in-Keyword
value-requires-in-Keyword c = grind (arith, elements)

pub returns-in-Some : goal.returns-in-Some
returns-in-Some c = grind (arith, elements)

pub returns-in-None : goal.returns-in-None
returns-in-None c = grind (arith, elements)

pub returns-in-Some-value : goal.returns-in-Some-value
returns-in-Some-value c = grind (arith, elements)

pub returns-in-None-value : goal.returns-in-None-value
returns-in-None-value c = grind (arith, elements)
