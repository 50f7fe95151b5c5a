use Rattle.std.proofs.Common.{◌≡◌, ℕ, ◌≤◌, ◌++◌, List, length, map, take, drop, sym, ap, ◌∙◌, arith, refl, subst}
use Rattle.std.proofs.lemmas.List.{append-nil, drop_all, take_all}
use Rattle.std.specs.List.{flat_map}
use Rattle.cat_base.specs.Texts.{IsTextSet}
use Rattle.cat_model.specs.Facets.{Facets, facets_of}
use Rattle.cat_model.specs.Item.{Record}
use Rattle.cat_model.specs.Page.{first_ranked, hits}
use Rattle.cat_model.specs.Text.{Text}
use Rattle.cat_model.specs.View.{Leaf, Shows, View, segments_of}
use Rattle.cat_search.specs.cat_query.declared.query.Query.{Query}
use Rattle.cat_search.specs.cat_query.View.{query_of}
use Rattle.cat_search.proofs.columns_laws.Ordinals.{dictionary_rises}
use Rattle.cat_model.specs.GlobalOrdinals.{leaf_dictionary}
use Rattle.cat_facets.specs.declared.segments.SegmentLabels.{SegmentLabels}
use Rattle.cat_facets.specs.Met.{facets_by, label_comes_first, label_told, met_from}
use Rattle.cat_facets.specs.States.{ReaderState, as_leaves, union_in, AreKnown, IsDimensionKept, IsState}
use Rattle.cat_facets.specs.Tallies.{hit_labels, labelled_count, AreCounts}
use Rattle.cat_facets.proofs.Answered.{counted_facets}
use Rattle.cat_facets.proofs.LiveTotals.{live_alike}
use Rattle.cat_facets.proofs.SameSegments.{kept_alike, known_alike, segments-as_leaves}
use Rattle.cat_facets.proofs.state.ReaderState.counts.Goals as goal

-- the labels of all segments are in order
labels_rise : (dimension : Text) (leaves : List Leaf) (labels : List Text) → labels ≡ union_in dimension leaves → IsTextSet labels
labels_rise dimension leaves labels is = subst (λ (ls : List Text). IsTextSet ls) (sym is) (dictionary_rises (map (leaf_dictionary dimension) leaves))

-- what is kept of the state is kept of leaves of its segments
kept_of : (state : ReaderState) (leaves : List Leaf) (labels : List Text) (segments : List SegmentLabels) → segments_of leaves ≡ state.segments
    → IsState state labels segments → IsDimensionKept state.dimension leaves labels segments
kept_of state leaves labels segments same is =
    kept_alike state.dimension (as_leaves state.segments) leaves (segments-as_leaves state.segments ∙ sym same) labels segments is

-- a slice of a whole vector is written back as it is
back : (n : ℕ) (new old : List SegmentLabels) → length new ≡ length old → length old ≤ n → take n (new ++ drop (length new) old) ≡ new
back n new old long some =
    ap (λ l. take n (new ++ l)) (ap (λ k. drop k old) long ∙ drop_all (length old) old (omega arith)) ∙ ap (take n) (append-nil new) ∙ take_all n new (omega (arith, long, some))

-- what is kept of the state's segments, where leaves of the same ones were counted
still_kept : (state : ReaderState) (dimension d : Text) (own leaves : List Leaf) (labels : List Text) (old new : List SegmentLabels) (len : ℕ) → length old ≤ len
    → segments_of own ≡ state.segments → segments_of leaves ≡ state.segments → IsState (record { segments = segments_of own; dimension = dimension }) labels old → d ≡ dimension
    → length new ≡ length old → AreKnown d labels leaves new → IsState (record { segments = segments_of own; dimension = dimension }) labels (take len (new ++ drop (length new) old))
still_kept state dimension d own leaves labels old new len some mine same was named long are = record {
  texts = was.texts;
  labels = was.labels;
  known =
      subst (AreKnown dimension labels (as_leaves (segments_of own))) (sym (back len new old long some))
      (known_alike dimension leaves (as_leaves (segments_of own)) (same ∙ sym mine ∙ sym (segments-as_leaves (segments_of own))) labels new
      (subst (λ x. AreKnown x labels leaves new) named are));
}

-- the counts over leaves of the state's segments are those over the records that are shown
told : (state : ReaderState) (view : View) (q : Query) (n labelled : ℕ) (labels : List Text) (segments : List SegmentLabels) (totals : List ℕ) (d : Text) (f : Facets) (rs : List Record)
    → segments_of view.leaves ≡ state.segments → IsState state labels segments → d ≡ state.dimension → Shows view rs
    → AreCounts labels (flat_map (hit_labels (query_of q) d) view.leaves) totals → labelled ≡ labelled_count (flat_map (hit_labels (query_of q) d) view.leaves)
    → f ≡ facets_by labels labelled totals n → f ≡ facets_of (hits rs (query_of q)) state.dimension n
told state view q n labelled labels segments totals d f rs same is named shown are l due =
    let kept = kept_of state view.leaves labels segments same is in
    let rows = λ (x : Text). flat_map (hit_labels (query_of q) x) view.leaves in
    due
    ∙ counted_facets view q state.dimension n labelled (length (met_from 0 totals)) labels totals (first_ranked label_comes_first (met_from 0 totals) n)
    (map (label_told labels) (first_ranked label_comes_first (met_from 0 totals) n)) rs shown (labels_rise state.dimension view.leaves labels kept.labels) kept.texts kept.labels
    (subst (λ x. AreCounts labels (rows x) totals) named are) (l ∙ ap (λ x. labelled_count (rows x)) named) refl refl refl

-- what is known of the state's segments is known of leaves of them
known_of : (state own : ReaderState) (leaves : List Leaf) (labels : List Text) (segments seen : List SegmentLabels) (d : Text) → own ≡ state → segments_of leaves ≡ state.segments
    → IsState own labels segments → d ≡ own.dimension → seen ≡ segments → AreKnown d labels leaves seen
known_of state own leaves labels segments seen d mine same is named all =
    let kept = kept_of state leaves labels segments same (subst (λ s. IsState s labels segments) mine is) in
    subst (λ x. AreKnown x labels leaves seen) (sym (named ∙ ap (λ s. s.dimension) mine)) (subst (λ (ks : List SegmentLabels). AreKnown state.dimension labels leaves ks) (sym all) kept.known)

pub count_live-requires-clause-known : goal.count_live-requires-clause-known
count_live-requires-clause-known c =
    known_of c.args.self.now (record { segments = segments_of c.self.inside.made_of.value.leaves; dimension = c.self.inside.dimension }) c.args.prepared.now.view.leaves c.self.inside.labels
    c.self.inside.segments.items c.deref_mut.result.now c.as_str-dimension.result.now c.self.view_is c.requires.segments c.self.invariant.0 c.as_str-dimension.ensures c.deref_mut.ensures.value

pub facets_told-requires-clause-rise : goal.facets_told-requires-clause-rise
facets_told-requires-clause-rise c =
    labels_rise c.self.inside.dimension (as_leaves (segments_of c.self.inside.made_of.value.leaves)) c.self.inside.labels c.self.invariant.0.labels

pub totals_of-requires : goal.totals_of-requires
totals_of-requires c =
    known_of c.args.self.now (record { segments = segments_of c.self.inside.made_of.value.leaves; dimension = c.self.inside.dimension }) c.args.prepared.now.view.leaves c.self.inside.labels
    c.self.inside.segments.items c.deref_mut-2.result.now c.as_str-dimension.result.now c.self.view_is c.requires.segments c.self.invariant.0 c.as_str-dimension.ensures c.deref_mut-2.ensures.value

pub facets_told-requires-2-clause-rise : goal.facets_told-requires-2-clause-rise
facets_told-requires-2-clause-rise c =
    labels_rise c.self.inside.dimension (as_leaves (segments_of c.self.inside.made_of.value.leaves)) c.self.inside.labels c.self.invariant.0.labels

pub returns-then-is_everything-clause-ok : goal.returns-then-is_everything-clause-ok
returns-then-is_everything-clause-ok c = λ rs shown.
    let state = c.args.self.now in
    let prepared = c.args.prepared.now in
    let labels = c.self.inside.labels in
    let inv = subst (λ s. IsState s labels c.self.inside.segments.items) c.self.view_is c.self.invariant.0 in
    let named : c.as_str-dimension.result.now ≡ state.dimension = c.as_str-dimension.ensures ∙ ap (λ s. s.dimension) c.self.view_is in
    let are =
    subst (λ ts. AreCounts labels (flat_map (hit_labels (query_of prepared.query) c.as_str-dimension.result.now) prepared.view.leaves) ts) (sym c.deref.ensures.value) c.in_ok-count_live.ensures.counts in
    told state prepared.view prepared.query c.args.n c.count_live.new.kept.labelled labels c.self.inside.segments.items c.deref.result.now c.as_str-dimension.result.now c.in_ok-facets_told.field-0 rs
    c.requires.segments inv named shown are c.in_ok-count_live.ensures.labelled c.in_ok-facets_told.ensures.ok

pub returns-clause-ok : goal.returns-clause-ok
returns-clause-ok c = λ rs shown.
    let state = c.args.self.now in
    let prepared = c.args.prepared.now in
    let labels = c.self.inside.labels in
    let inv = subst (λ s. IsState s labels c.self.inside.segments.items) c.self.view_is c.self.invariant.0 in
    let named : c.as_str-dimension.result.now ≡ state.dimension = c.as_str-dimension.ensures ∙ ap (λ s. s.dimension) c.self.view_is in
    let are =
    subst (λ ts. AreCounts labels (flat_map (hit_labels (query_of prepared.query) c.as_str-dimension.result.now) prepared.view.leaves) ts) (sym c.deref-2.ensures.value) c.in_ok-labelled.ensures.counts in
    told state prepared.view prepared.query c.args.n c.in_ok-labelled.labelled labels c.self.inside.segments.items c.deref-2.result.now c.as_str-dimension.result.now c.in_ok-facets_told-2.field-0 rs
    c.requires.segments inv named shown are c.in_ok-labelled.ensures.labelled c.in_ok-facets_told-2.ensures.ok

pub invariant_of-self : goal.invariant_of-self
invariant_of-self c = (
  still_kept c.args.self.now c.self.inside.dimension c.as_str-dimension.result.now c.self.inside.made_of.value.leaves c.args.prepared.now.view.leaves c.self.inside.labels
      c.self.inside.segments.items c.count_live.new.known c.self.inside.segments.len (omega (arith, c.self.inside.segments.ok.0))
      (ap (λ s. s.segments) c.self.view_is) c.requires.segments c.self.invariant.0 c.as_str-dimension.ensures (c.count_live.auto.known ∙ ap length c.deref_mut.ensures.value) c.count_live.ensures.known,
  live_alike c.self.inside.dimension c.as_str-dimension.result.now c.self.inside.labels (segments_of c.self.inside.made_of.value.leaves) (segments_of c.args.prepared.now.view.leaves)
      c.count_live.new.kept c.as_str-dimension.ensures (c.requires.segments ∙ sym (ap (λ s. s.segments) c.self.view_is)) c.count_live.ensures.kept,
)

pub invariant_of-self-in_err-facets_told : goal.invariant_of-self-in_err-facets_told
invariant_of-self-in_err-facets_told c = (
  still_kept c.args.self.now c.self.inside.dimension c.as_str-dimension.result.now c.self.inside.made_of.value.leaves c.args.prepared.now.view.leaves c.self.inside.labels
      c.self.inside.segments.items c.count_live.new.known c.self.inside.segments.len (omega (arith, c.self.inside.segments.ok.0))
      (ap (λ s. s.segments) c.self.view_is) c.requires.segments c.self.invariant.0 c.as_str-dimension.ensures (c.count_live.auto.known ∙ ap length c.deref_mut.ensures.value) c.count_live.ensures.known,
  live_alike c.self.inside.dimension c.as_str-dimension.result.now c.self.inside.labels (segments_of c.self.inside.made_of.value.leaves) (segments_of c.args.prepared.now.view.leaves)
      c.count_live.new.kept c.as_str-dimension.ensures (c.requires.segments ∙ sym (ap (λ s. s.segments) c.self.view_is)) c.count_live.ensures.kept,
)

pub invariant_of-self-then-is_everything : goal.invariant_of-self-then-is_everything
invariant_of-self-then-is_everything c = (
  still_kept c.args.self.now c.self.inside.dimension c.as_str-dimension.result.now c.self.inside.made_of.value.leaves c.args.prepared.now.view.leaves c.self.inside.labels
      c.self.inside.segments.items c.count_live.new.known c.self.inside.segments.len (omega (arith, c.self.inside.segments.ok.0))
      (ap (λ s. s.segments) c.self.view_is) c.requires.segments c.self.invariant.0 c.as_str-dimension.ensures (c.count_live.auto.known ∙ ap length c.deref_mut.ensures.value) c.count_live.ensures.known,
  live_alike c.self.inside.dimension c.as_str-dimension.result.now c.self.inside.labels (segments_of c.self.inside.made_of.value.leaves) (segments_of c.args.prepared.now.view.leaves)
      c.count_live.new.kept c.as_str-dimension.ensures (c.requires.segments ∙ sym (ap (λ s. s.segments) c.self.view_is)) c.count_live.ensures.kept,
)

pub invariant_of-self-in_err-labelled : goal.invariant_of-self-in_err-labelled
invariant_of-self-in_err-labelled c = (
  still_kept c.args.self.now c.self.inside.dimension c.as_str-dimension.result.now c.self.inside.made_of.value.leaves c.args.prepared.now.view.leaves c.self.inside.labels
      c.self.inside.segments.items c.totals_of.new.known c.self.inside.segments.len (omega (arith, c.self.inside.segments.ok.0))
      (ap (λ s. s.segments) c.self.view_is) c.requires.segments c.self.invariant.0 c.as_str-dimension.ensures (c.totals_of.auto.known ∙ ap length c.deref_mut-2.ensures.value) c.totals_of.ensures.known,
  c.self.invariant.1,
)

pub invariant_of-self-in_err-facets_told-2 : goal.invariant_of-self-in_err-facets_told-2
invariant_of-self-in_err-facets_told-2 c = (
  still_kept c.args.self.now c.self.inside.dimension c.as_str-dimension.result.now c.self.inside.made_of.value.leaves c.args.prepared.now.view.leaves c.self.inside.labels
      c.self.inside.segments.items c.totals_of.new.known c.self.inside.segments.len (omega (arith, c.self.inside.segments.ok.0))
      (ap (λ s. s.segments) c.self.view_is) c.requires.segments c.self.invariant.0 c.as_str-dimension.ensures (c.totals_of.auto.known ∙ ap length c.deref_mut-2.ensures.value) c.totals_of.ensures.known,
  c.self.invariant.1,
)

pub invariant_of-self-2 : goal.invariant_of-self-2
invariant_of-self-2 c = (
  still_kept c.args.self.now c.self.inside.dimension c.as_str-dimension.result.now c.self.inside.made_of.value.leaves c.args.prepared.now.view.leaves c.self.inside.labels
      c.self.inside.segments.items c.totals_of.new.known c.self.inside.segments.len (omega (arith, c.self.inside.segments.ok.0))
      (ap (λ s. s.segments) c.self.view_is) c.requires.segments c.self.invariant.0 c.as_str-dimension.ensures (c.totals_of.auto.known ∙ ap length c.deref_mut-2.ensures.value) c.totals_of.ensures.known,
  c.self.invariant.1,
)
