use Rattle.std.proofs.Common.{◌≡◌, ◌+◌, ◌<◌, ◌≤◌, length, get_or, set, take, ℕ, List, refl, sym, ap, ◌∙◌, arith, subst}
use Rattle.std.proofs.lemmas.List.{take_all}
use Rattle.std.specs.List.{flat_map}
use Rattle.cat_model.specs.Text.{Text}
use Rattle.cat_model.specs.View.{Leaf}
use Rattle.cat_search.specs.cat_query.View.{query_of}
use Rattle.cat_facets.specs.declared.segments.SegmentLabels.{SegmentLabels}
use Rattle.cat_facets.specs.States.{AreKnown, IsKnown}
use Rattle.cat_facets.specs.Tallies.{hit_labels, labelled_count, leaf_labels, AreCounts}
use Rattle.cat_facets.proofs.Learnt.{stay_known}
use Rattle.cat_facets.proofs.totals.add_all_hits.Goals as goal

-- what is kept of the leaves, where the one of this index was looked at
learnt : (dimension : Text) (labels : List Text) (leaves seen : List Leaf) (known : List SegmentLabels) (i : ℕ) (leaf : Leaf) (one : SegmentLabels) → seen ≡ leaves → leaf ≡ get_or seen i leaf
    → i < length seen → AreKnown dimension labels leaves known → IsKnown labels (leaf_labels dimension leaf) one → AreKnown dimension labels leaves (set known i one)
learnt dimension labels leaves seen known i leaf one same at within are is =
    stay_known dimension labels leaves known are i leaf one (let n = ap length same in omega (arith, within, n))
    (subst (λ x. IsKnown labels (leaf_labels dimension x) one) (at ∙ ap (λ ls. get_or ls i leaf) same) is)

-- the leaf is the one of this index
here : (leaves seen : List Leaf) (i : ℕ) (leaf : Leaf) → seen ≡ leaves → leaf ≡ get_or seen i leaf → leaf ≡ get_or leaves i leaf
here leaves seen i leaf same at = at ∙ ap (λ ls. get_or ls i leaf) same

pub loop-index-init : goal.loop-index-init
loop-index-init c = record { known = c.requires.known; labelled = refl; counts = c.requires.counts }

pub add_hits-requires-clause-index : goal.add_hits-requires-clause-index
add_hits-requires-clause-index c = let n = ap length c.leaves-leaves.ensures.value in let m = ap (λ v. length v.leaves) c.view.ensures in omega (arith, n, m)

pub add_hits-requires-clause-leaf : goal.add_hits-requires-clause-leaf
add_hits-requires-clause-leaf c =
    here c.args.prepared.now.view.leaves c.leaves-leaves.result.now c.loop-index.index c.index-leaves-index.result (c.leaves-leaves.ensures.value ∙ ap (λ v. v.leaves) c.view.ensures)
    c.index-leaves-index.is

pub add_hits-requires-clause-known : goal.add_hits-requires-clause-known
add_hits-requires-clause-known c =
    let leaves = c.args.prepared.now.view.leaves in
    let i = c.loop-index.index in
    let leaf = c.index-leaves-index.result in
    let one = c.index-known-index.result in
    let seen : c.leaves-leaves.result.now ≡ leaves = c.leaves-leaves.ensures.value ∙ ap (λ v. v.leaves) c.view.ensures in
    let at : leaf ≡ get_or leaves i leaf = here leaves c.leaves-leaves.result.now i leaf seen c.index-leaves-index.is in
    let within : i < length leaves = let n = ap length seen in omega (arith, n) in
    subst (λ x. IsKnown c.args.labels.now (leaf_labels c.args.dimension.now x) (get_or c.loop-index.known i one)) (sym at) (c.loop-index.invariant.known.each i leaf one within)

pub add_hits-requires-clause-counts : goal.add_hits-requires-clause-counts
add_hits-requires-clause-counts c = c.loop-index.invariant.counts

pub loop-index-preserved : goal.loop-index-preserved
loop-index-preserved c = record {
  known =
      learnt c.args.dimension.now c.args.labels.now c.args.prepared.now.view.leaves c.leaves-leaves.result.now c.loop-index.known c.loop-index.index c.index-leaves-index.result c.add_hits.new.known
      (c.leaves-leaves.ensures.value ∙ ap (λ v. v.leaves) c.view.ensures) c.index-leaves-index.is (omega arith) c.loop-index.invariant.known c.add_hits.ensures.known;
  labelled = c.in_ok-labelled.ensures.ok ∙ ap (λ n. n + c.in_ok-more.more) c.loop-index.invariant.labelled ∙ sym c.in_ok-more.ensures.labelled;
  counts = c.in_ok-more.ensures.counts;
}

pub returns-in_err-more-clause-known : goal.returns-in_err-more-clause-known
returns-in_err-more-clause-known c =
    learnt c.args.dimension.now c.args.labels.now c.args.prepared.now.view.leaves c.leaves-leaves.result.now c.loop-index.known c.loop-index.index c.index-leaves-index.result c.add_hits.new.known
    (c.leaves-leaves.ensures.value ∙ ap (λ v. v.leaves) c.view.ensures) c.index-leaves-index.is (omega arith) c.loop-index.invariant.known c.add_hits.ensures.known

pub returns-in_err-labelled-clause-known : goal.returns-in_err-labelled-clause-known
returns-in_err-labelled-clause-known c =
    learnt c.args.dimension.now c.args.labels.now c.args.prepared.now.view.leaves c.leaves-leaves.result.now c.loop-index.known c.loop-index.index c.index-leaves-index.result c.add_hits.new.known
    (c.leaves-leaves.ensures.value ∙ ap (λ v. v.leaves) c.view.ensures) c.index-leaves-index.is (omega arith) c.loop-index.invariant.known c.add_hits.ensures.known

-- all leaves were looked at
whole : (leaves seen : List Leaf) (i : ℕ) → seen ≡ leaves → length seen ≤ i → take i leaves ≡ leaves
whole leaves seen i same ended = take_all i leaves (let n = ap length same in omega (arith, ended, n))

pub returns-clause-labelled : goal.returns-clause-labelled
returns-clause-labelled c =
    let f = hit_labels (query_of c.args.prepared.now.query) c.args.dimension.now in
    c.loop-index.invariant.labelled
    ∙ ap (λ ls. labelled_count (flat_map f ls)) (whole c.args.prepared.now.view.leaves c.leaves-leaves.result.now c.loop-index.index (c.leaves-leaves.ensures.value ∙ ap (λ v. v.leaves) c.view.ensures) (omega arith))

pub returns-clause-counts : goal.returns-clause-counts
returns-clause-counts c =
    let f = hit_labels (query_of c.args.prepared.now.query) c.args.dimension.now in
    subst (λ ls. AreCounts c.args.labels.now (flat_map f ls) c.loop-index.totals)
    (whole c.args.prepared.now.view.leaves c.leaves-leaves.result.now c.loop-index.index (c.leaves-leaves.ensures.value ∙ ap (λ v. v.leaves) c.view.ensures) (omega arith)) c.loop-index.invariant.counts
