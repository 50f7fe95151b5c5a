use Rattle.std.proofs.Common.{◌≡◌, ◌∙◌, List, map, sym, ap, subst}
use Rattle.std.specs.Prelude.{All}
use Rattle.cat_model.specs.Item.{AreFields}
use Rattle.cat_model.specs.Ordinals.{dictionary_of}
use Rattle.cat_model.specs.Text.{Text}
use Rattle.cat_model.specs.View.{Leaf, Segment, AreRows}
use Rattle.cat_model.specs.GlobalOrdinals.{leaf_dictionary}
use Rattle.cat_facets.specs.States.{HasLabels, IsFacetIn}
use Rattle.cat_facets.specs.Tallies.{labels_at, leaf_labels}
use Rattle.cat_facets.proofs.Columns.{empty_rows, no_dictionary}
use Rattle.cat_facets.proofs.FacetFields.{leaf_has_labels}
use Rattle.cat_facets.proofs.segments.labels_in.Goals as goal

-- the rows of a segment have no texts but labels
own : (dimension : Text) (leaf : Leaf) (segment : Segment) → segment ≡ leaf.segment → AreRows segment.schema segment.rows → IsFacetIn dimension leaf → HasLabels dimension leaf
own dimension leaf segment same rows facet = leaf_has_labels dimension leaf (subst (λ s. All (λ r. AreFields s.schema r.fields) s.rows) same rows.fields) facet

-- the dictionary of these labels
given : (dimension : Text) (leaf : Leaf) (labels : List (List Text)) (texts : List Text) → HasLabels dimension leaf → texts ≡ dictionary_of labels → labels ≡ leaf_labels dimension leaf → texts ≡ leaf_dictionary dimension leaf
given dimension leaf labels texts has is same = is ∙ ap dictionary_of (same ∙ sym has)

pub returns-in-Some-clause-labels : goal.returns-in-Some-clause-labels
returns-in-Some-clause-labels c =
    let dimension = c.args.dimension.now in
    given dimension c.args.leaf.now c.in-Some.labels.now c.as_slice.result.now (own dimension c.args.leaf.now c.segment.result.now c.segment.ensures c.len.ensures.rows c.requires)
    (c.as_slice.ensures.value ∙ c.dictionary.ensures ∙ ap dictionary_of c.labels.ensures)
    (c.in-Some.ensures ∙ ap (λ s. map (labels_at dimension) s.rows) c.segment-2.ensures)

pub returns-in-Some-clause-texts : goal.returns-in-Some-clause-texts
returns-in-Some-clause-texts c = own c.args.dimension.now c.args.leaf.now c.segment.result.now c.segment.ensures c.len.ensures.rows c.requires

pub returns-in-None-clause-labels : goal.returns-in-None-clause-labels
returns-in-None-clause-labels c =
    let dimension = c.args.dimension.now in
    let rows = c.args.leaf.now.segment.rows in
    let none = subst (λ s. map (labels_at dimension) s.rows ≡ empty_rows s.rows) c.segment-2.ensures c.in-None.ensures in
    no_dictionary rows (leaf_labels dimension c.args.leaf.now) none
    ∙ ap dictionary_of (sym (own dimension c.args.leaf.now c.segment.result.now c.segment.ensures c.len.ensures.rows c.requires))

pub returns-in-None-clause-texts : goal.returns-in-None-clause-texts
returns-in-None-clause-texts c = own c.args.dimension.now c.args.leaf.now c.segment.result.now c.segment.ensures c.len.ensures.rows c.requires
