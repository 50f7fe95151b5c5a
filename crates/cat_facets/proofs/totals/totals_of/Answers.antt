use Rattle.std.proofs.Common.{◌≡◌, List, ℕ, [], length, replicate, sym, ap, ◌∙◌, arith, subst}
use Rattle.std.proofs.lemmas.List.{get_or-replicate, length-replicate}
use Rattle.std.specs.List.{flat_map}
use Rattle.cat_model.specs.Text.{Text}
use Rattle.cat_search.specs.cat_query.View.{query_of}
use Rattle.cat_search.proofs.columns_laws.Bits.{written_back}
use Rattle.cat_facets.specs.Tallies.{hit_labels, AreCounts}
use Rattle.cat_facets.proofs.totals.totals_of.Goals as goal

-- no row is counted where each count is 0
none_counted : (labels : List Text) (totals : List ℕ) (n : ℕ) → totals ≡ replicate n 0 → n ≡ length labels → AreCounts labels [] totals
none_counted labels totals n zeros long =
    subst (λ ts. AreCounts labels [] ts) (sym (zeros ∙ ap (λ k. replicate k 0) long))
    (record { long = length-replicate (length labels) 0; each = λ o lt. get_or-replicate (length labels) o 0 0 lt })

pub add_all_hits-requires-clause-counts : goal.add_all_hits-requires-clause-counts
add_all_hits-requires-clause-counts c = none_counted c.args.labels.now c.deref_mut.result.now c.len.result (c.deref_mut.ensures.value ∙ c.in_ok-totals.ensures.items_if_clones_equal (λ y h. h)) c.len.ensures

pub returns-clause-counts : goal.returns-clause-counts
returns-clause-counts c =
    let old = c.in_ok-totals.totals.items in
    let new = c.add_all_hits.new.totals in
    let kept : length new ≡ length old = c.add_all_hits.auto.totals ∙ ap length c.deref_mut.ensures.value in
    let back = written_back c.in_ok-totals.totals.len new old kept (omega (arith, c.in_ok-totals.totals.ok.0)) in
    subst (AreCounts c.args.labels.now (flat_map (hit_labels (query_of c.args.prepared.now.query) c.args.dimension.now) c.args.prepared.now.view.leaves)) (sym back)
    c.in_ok-labelled.ensures.counts
