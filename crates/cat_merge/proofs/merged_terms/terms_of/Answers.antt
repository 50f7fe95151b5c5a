use Rattle.std.proofs.Common.{map, sym, ap, ◌∙◌}
use Rattle.cat_views.specs.cat_segment.Contents.{contents_of}
use Rattle.cat_views.specs.cat_segment.Laid.{column_kind}
use Rattle.cat_merge.specs.Fields.{texts_read}
use Rattle.cat_merge.proofs.Read.{words_told, keyword_texts_told, label_texts_told}
use Rattle.cat_merge.proofs.merged_terms.terms_of.Goals as goal

pub returns-in-Text : goal.returns-in-Text
returns-in-Text c = sym (words_told c.in-Text.terms) ∙ ap (λ x. map (texts_read (column_kind x)) (contents_of x)) (sym c.in-Text.is)

pub returns-in-Keyword : goal.returns-in-Keyword
returns-in-Keyword c = c.terms.ensures ∙ sym (keyword_texts_told c.in-Keyword.keywords) ∙ ap (λ x. map (texts_read (column_kind x)) (contents_of x)) (sym c.in-Keyword.is)

pub returns-in-Facet : goal.returns-in-Facet
returns-in-Facet c = c.terms-in-Facet.ensures ∙ sym (label_texts_told c.in-Facet.labels) ∙ ap (λ x. map (texts_read (column_kind x)) (contents_of x)) (sym c.in-Facet.is)
