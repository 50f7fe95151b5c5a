use Rattle.std.proofs.Common.{◌≡◌, sym, IfSome, ◌∙◌, List, map, take, ap, subst, arith}
use Rattle.std.proofs.lemmas.List.{take_all}
use Rattle.std.proofs.lemmas.Grind.{elements}
use Rattle.cat_model.specs.Ranks.{sorted}
use Rattle.cat_model.specs.View.{Leaf, row_matches}
use Rattle.cat_query.specs.View.{query_of}
use Rattle.cat_search.specs.Candidates.{IsBestAt, mark_standing}
use Rattle.cat_search.specs.Pages.{behind}
use Rattle.cat_search.specs.Rows.{hits_in, row_standing}
use Rattle.cat_views.specs.Sets.{set_at}
use Rattle.cat_search.specs.Standings.{standing_before}
use Rattle.cat_search.proofs.Candidates.{best_standings}
use Rattle.cat_search.proofs.Gathered.{looked_at, leaf_total, leaf_standings}
use Rattle.cat_search.proofs.gathering.best_hits.Goals as goal

pub loop-index-preserved : goal.loop-index-preserved
loop-index-preserved c =
    let q = query_of c.args.query.now in
    let o = c.args.wanted.now.order in
    let mark = mark_standing c.args.wanted.now.mark in
    let leaves = c.args.leaves.now in
    let i = c.loop-index.index in
    let leaf = c.index-leaves-index.result in
    let standings = behind mark (map (row_standing o) (hits_in (take i leaves) q)) in
    record {
      total = leaf_total q leaves i leaf c.index-leaves-index.is c.loop-index-test.true c.loop-index.total c.in_ok-found.found c.in_ok-total.total c.loop-index.invariant.total c.in_ok-found.ensures.total c.in_ok-total.ensures.ok;
      limit = c.in_ok-found.ensures.limit ∙ c.loop-index.invariant.limit;
      best = subst (IsBestAt c.offer_leaf.new.best) (leaf_standings q leaves i leaf c.index-leaves-index.is c.loop-index-test.true mark o) (c.in_ok-found.ensures.best standings c.loop-index.invariant.best);
    }

pub returns-clause-best : goal.returns-clause-best
returns-clause-best c =
    let wanted = c.args.wanted.now in
    let standings = λ (ls : List Leaf). behind (mark_standing wanted.mark) (map (row_standing wanted.order) (hits_in ls (query_of c.args.query.now))) in
    best_standings c.loop-index.best c.in_ok-first.first.items c.in_ok-first.ensures.first (standings (take c.loop-index.index c.args.leaves.now)) c.loop-index.invariant.best
    ∙ ap (λ n. take n (sorted standing_before (standings (take c.loop-index.index c.args.leaves.now)))) c.loop-index.invariant.limit
    ∙ ap (λ ls. take wanted.count (sorted standing_before (standings ls))) (take_all c.loop-index.index c.args.leaves.now c.loop-index-test.false)

pub offer_leaf-requires : goal.offer_leaf-requires
offer_leaf-requires c =
    let rows = row_matches (query_of c.args.query.now) in
    let leaf = c.index-leaves-index.result in
    let leaves = c.args.leaves.now in
    let hand = c.requires c.loop-index.index leaf c.loop-index-test.true in
    looked_at (λ s. s ≡ map rows leaf.segment.rows) c.set_at-set.result (set_at c.args.sets.now c.loop-index.index) c.set_at-set.ensures
    (subst (λ l. IfSome (set_at c.args.sets.now c.loop-index.index) (λ s. s ≡ map rows l.segment.rows)) (sym c.index-leaves-index.is) hand)

pub returns-clause-total : goal.returns-clause-total
returns-clause-total c = grind (arith, elements)
