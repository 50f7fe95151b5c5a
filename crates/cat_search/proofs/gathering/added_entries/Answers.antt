use Rattle.std.proofs.Common.{List, subst, ◌≡◌, sym, IfSome, ◌∙◌, length, map, take, ap}
use Rattle.std.proofs.lemmas.List.{take_all}
use Rattle.cat_model.specs.View.{row_matches}
use Rattle.cat_query.specs.View.{query_of}
use Rattle.cat_search.specs.declared.sort.Order.TheVariants.{Added}
use Rattle.cat_search.specs.Candidates.{mark_standing}
use Rattle.cat_search.specs.Pages.{behind}
use Rattle.cat_search.specs.Rows.{hits_in, row_standing}
use Rattle.cat_views.specs.Sets.{set_at}
use Rattle.cat_search.specs.Standings.{HitStanding, entry_shown}
use Rattle.cat_search.proofs.Gathered.{looked_at, leaf_total, leaf_standings}
use Rattle.cat_search.proofs.gathering.added_entries.Goals as goal

pub loop-index-preserved : goal.loop-index-preserved
loop-index-preserved c =
    let q = query_of c.args.query.now in
    let mark = mark_standing c.args.wanted.now.mark in
    let leaves = c.args.leaves.now in
    let i = c.loop-index.index in
    let leaf = c.index-leaves-index.result in
    let standings = behind mark (map (row_standing Added) (hits_in (take i leaves) q)) in
    record {
      total = leaf_total q leaves i leaf c.index-leaves-index.is c.loop-index-test.true c.loop-index.total c.in_ok-found.found c.in_ok-total.total c.loop-index.invariant.total c.in_ok-found.ensures.total c.in_ok-total.ensures.ok;
      shown = c.in_ok-found.ensures.shown standings c.loop-index.invariant.shown
          ∙ ap (λ (l : List HitStanding). take c.args.wanted.now.count (map entry_shown l)) (leaf_standings q leaves i leaf c.index-leaves-index.is c.loop-index-test.true mark Added);
    }

pub show_leaf-requires : goal.show_leaf-requires
show_leaf-requires c =
    let rows = row_matches (query_of c.args.query.now) in
    let leaf = c.index-leaves-index.result in
    let leaves = c.args.leaves.now in
    let hand = c.requires c.loop-index.index leaf c.loop-index-test.true in
    looked_at (λ s. s ≡ map rows leaf.segment.rows) c.set_at-set.result (set_at c.args.sets.now c.loop-index.index) c.set_at-set.ensures
    (subst (λ l. IfSome (set_at c.args.sets.now c.loop-index.index) (λ s. s ≡ map rows l.segment.rows)) (sym c.index-leaves-index.is) hand)

pub returns-clause-total : goal.returns-clause-total
returns-clause-total c = c.loop-index.invariant.total ∙ ap (λ ls. length (hits_in ls (query_of c.args.query.now))) (take_all c.loop-index.index c.args.leaves.now c.loop-index-test.false)

pub returns-clause-first : goal.returns-clause-first
returns-clause-first c =
    let wanted = c.args.wanted.now in
    c.loop-index.invariant.shown
    ∙ ap (λ ls. take wanted.count (map entry_shown (behind (mark_standing wanted.mark) (map (row_standing Added) (hits_in ls (query_of c.args.query.now)))))) (take_all c.loop-index.index c.args.leaves.now c.loop-index-test.false)
