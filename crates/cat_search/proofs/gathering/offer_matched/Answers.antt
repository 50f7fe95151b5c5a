use Rattle.std.proofs.Common.{◌++◌, ap, length, subst, sym, ◌∙◌}
use Rattle.std.proofs.lemmas.List.{length-map}
use Rattle.cat_query.specs.View.{query_of}
use Rattle.cat_views.proofs.Selected.{count-selected}
use Rattle.cat_search.specs.Candidates.{IsBestAt, mark_standing}
use Rattle.cat_search.specs.Hits.{hit_rows}
use Rattle.cat_search.specs.Pages.{behind}
use Rattle.cat_search.specs.Rows.{row_standing}
use Rattle.cat_search.proofs.Gathered.{hits_standings}
use Rattle.cat_search.proofs.gathering.offer_matched.Goals as goal

pub offer_hits-requires : goal.offer_hits-requires
offer_hits-requires c =
    let order = c.args.wanted.now.order in
    let ranked = ap length c.of-ranks.ensures ∙ length-map c.segment.result.now.rows (row_standing order) ∙ ap (λ s. length s.rows) c.segment.ensures in
    c.in_ok-hits.ensures.long ∙ sym ranked

pub returns-clause-total : goal.returns-clause-total
returns-clause-total c =
    c.count-total.ensures ∙ count-selected (hit_rows c.in_ok-hits.hits) c.args.leaf.now.segment.rows c.in_ok-hits.ensures.long ∙ ap length c.in_ok-hits.ensures.ok

pub returns-clause-best : goal.returns-clause-best
returns-clause-best c = λ ps h.
    let leaf = c.args.leaf.now in
    let wanted = c.args.wanted.now in
    subst (λ l. IsBestAt c.offer_hits.new.best (ps ++ behind (mark_standing wanted.mark) l))
    (hits_standings (query_of c.args.query.now) leaf wanted.order c.segment.result.now c.of-ranks.result (hit_rows c.in_ok-hits.hits) c.segment.ensures c.of-ranks.ensures c.in_ok-hits.ensures.ok)
    (c.in_ok-offer_hits.ensures.best ps h)
