use Rattle.std.proofs.Common.{◌≡◌, ◌∙◌, sym, ap, subst}
use Rattle.cat_search.specs.cat_query.View.{query_of}
use Rattle.cat_facets.specs.LiveTotals.{live_sets}
use Rattle.cat_facets.specs.Tallies.{labelled_count, AreCounts}
use Rattle.cat_facets.proofs.LiveTotals.{counted_hits}
use Rattle.cat_facets.proofs.live.count_live.Goals as goal

pub returns-then-are_live-clause-labelled : goal.returns-then-are_live-clause-labelled
returns-then-are_live-clause-labelled c =
    let leaves = c.args.prepared.now.view.leaves in
    let seen : c.leaves-leaves.result.now ≡ leaves = c.leaves-leaves.ensures.value ∙ ap (λ v. v.leaves) c.view.ensures in
    let sets = c.args.kept.now.live.items in
    let are : sets ≡ live_sets leaves = sym c.deref.ensures.value ∙ c.are_live.ensures c.if-are_live.true ∙ ap live_sets seen in
    c.requires.kept.labelled ∙ ap labelled_count (counted_hits (query_of c.args.prepared.now.query) c.args.dimension.now c.requires.everything leaves sets are)

pub returns-then-are_live-clause-counts : goal.returns-then-are_live-clause-counts
returns-then-are_live-clause-counts c =
    let leaves = c.args.prepared.now.view.leaves in
    let seen : c.leaves-leaves.result.now ≡ leaves = c.leaves-leaves.ensures.value ∙ ap (λ v. v.leaves) c.view.ensures in
    let sets = c.args.kept.now.live.items in
    let are : sets ≡ live_sets leaves = sym c.deref.ensures.value ∙ c.are_live.ensures c.if-are_live.true ∙ ap live_sets seen in
    subst (λ rows. AreCounts c.args.labels.now rows c.args.kept.now.totals.items)
    (counted_hits (query_of c.args.prepared.now.query) c.args.dimension.now c.requires.everything leaves sets are) c.requires.kept.counts

pub returns-clause-kept : goal.returns-clause-kept
returns-clause-kept c =
    let leaves = c.args.prepared.now.view.leaves in
    let seen : c.leaves-leaves.result.now ≡ leaves = c.leaves-leaves.ensures.value ∙ ap (λ v. v.leaves) c.view.ensures in
    let sets = c.in_ok-live.live.items in
    let rows = counted_hits (query_of c.args.prepared.now.query) c.args.dimension.now c.requires.everything leaves sets (c.in_ok-live.ensures ∙ ap live_sets seen) in
    record {
      labelled = c.in_ok-labelled.ensures.labelled ∙ sym (ap labelled_count rows);
      counts = subst (λ rs. AreCounts c.args.labels.now rs c.in_ok-labelled.totals.items) (sym rows) c.in_ok-labelled.ensures.counts;
    }

pub totals_of-requires : goal.totals_of-requires
totals_of-requires c = c.requires.known

pub returns-clause-known : goal.returns-clause-known
returns-clause-known c = c.in_ok-labelled.ensures.known

pub returns-clause-labelled : goal.returns-clause-labelled
returns-clause-labelled c = c.in_ok-labelled.ensures.labelled

pub returns-clause-counts : goal.returns-clause-counts
returns-clause-counts c = c.in_ok-labelled.ensures.counts
