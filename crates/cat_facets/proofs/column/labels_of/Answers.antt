use Rattle.std.proofs.Common.{◌∙◌, ap, sym, map, Some, refl}
use Rattle.cat_model.specs.Item.{Content}
use Rattle.cat_search.specs.cat_segment.Contents.{contents_of}
use Rattle.cat_facets.proofs.Columns.{facet_column, no_column, other_column}
use Rattle.cat_facets.proofs.column.labels_of.Goals as goal

pub returns-in_default : goal.returns-in_default
returns-in_default c = no_column c.args.dimension.now c.args.segment.now.rows c.in_default.ensures

pub returns-in-Facet : goal.returns-in-Facet
returns-in-Facet c =
    facet_column c.args.dimension.now c.args.segment.now.rows c.in-Facet.labels (ap (λ x. map (λ y. Some y) (contents_of x)) (sym c.in-Facet.is) ∙ c.in-Some.ensures)

pub returns-in-Text : goal.returns-in-Text
returns-in-Text c =
    other_column Content.words (λ x. refl) c.args.dimension.now c.args.segment.now.rows c.in-Text.field-0 (ap (λ x. map (λ y. Some y) (contents_of x)) (sym c.in-Text.is) ∙ c.in-Some.ensures)

pub returns-in-Keyword : goal.returns-in-Keyword
returns-in-Keyword c =
    other_column Content.keyword (λ x. refl) c.args.dimension.now c.args.segment.now.rows c.in-Keyword.field-0 (ap (λ x. map (λ y. Some y) (contents_of x)) (sym c.in-Keyword.is) ∙ c.in-Some.ensures)

pub returns-in-Number : goal.returns-in-Number
returns-in-Number c =
    other_column Content.number (λ x. refl) c.args.dimension.now c.args.segment.now.rows c.in-Number.field-0 (ap (λ x. map (λ y. Some y) (contents_of x)) (sym c.in-Number.is) ∙ c.in-Some.ensures)
