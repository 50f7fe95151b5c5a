use Rattle.std.proofs.Common.{◌≡◌, ◌∙◌, List, All, replicate, sym, ap, subst}
use Rattle.cat_model.specs.Text.{Text}
use Rattle.cat_model.specs.View.{Leaf, View, segments_of}
use Rattle.cat_facets.specs.declared.segments.SegmentLabels.{SegmentLabels}
use Rattle.cat_facets.specs.States.{as_leaves, union_in, AreKnown, HasLabels, IsDimensionKept}
use Rattle.cat_facets.proofs.LiveTotals.{none_counted}
use Rattle.cat_facets.proofs.SameSegments.{kept_alike, segments-as_leaves}
use Rattle.cat_facets.proofs.state.ReaderState.in_facet.Goals as goal

-- what is kept of the leaves of a view is kept of its segments
of_view : (dimension name : Text) (view seen : View) (first second : List Leaf) (labels : List Text) (known : List SegmentLabels)
    → name ≡ dimension → seen ≡ view → first ≡ view.leaves → second ≡ view.leaves
    → labels ≡ union_in dimension first → All (HasLabels dimension) first → AreKnown dimension labels second known
    → IsDimensionKept name (as_leaves (segments_of seen.leaves)) labels known
of_view dimension name view seen first second labels known named same one two is texts are =
    let whole : IsDimensionKept dimension view.leaves labels known = record {
      texts = subst (All (HasLabels dimension)) one texts;
      labels = is ∙ ap (union_in dimension) one;
      known = subst (λ ls. AreKnown dimension labels ls known) two are;
    } in
    subst (λ d. IsDimensionKept d (as_leaves (segments_of seen.leaves)) labels known) (sym named)
    (subst (λ (v : View). IsDimensionKept dimension (as_leaves (segments_of v.leaves)) labels known) (sym same)
    (kept_alike dimension view.leaves (as_leaves (segments_of view.leaves)) (sym (segments-as_leaves (segments_of view.leaves))) labels known whole))

pub invariant_of-result : goal.invariant_of-result
invariant_of-result c = (
  of_view c.args.dimension.now c.in_ok-from_str.field-0 c.args.view.now c.of.result.value c.leaves.result.now c.leaves-2.result.now c.in_ok-labels.labels c.in_ok-segments.segments.items
      c.in_ok-from_str.ensures.ok c.of.ensures c.leaves.ensures.value c.leaves-2.ensures.value c.in_ok-labels.ensures.ok c.in_ok-labels.ensures.texts c.in_ok-segments.ensures.ok,
  none_counted c.in_ok-from_str.field-0 c.in_ok-labels.labels (segments_of c.of.result.value.leaves) c.in_ok-live.live c.in_ok-live.ensures.live c.in_ok-live.ensures.labelled
      (c.in_ok-live.ensures.totals ∙ ap (λ n. replicate n 0) c.len.ensures),
)
