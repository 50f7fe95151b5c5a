use Rattle.std.proofs.Common.{◌≡◌, ℕ, ◌<◌, ◌++◌, All, ap, filter, length, map, subst, sym, ◌∙◌}
use Rattle.std.proofs.lemmas.List.{length-map}
use Rattle.std.proofs.lemmas.List.Sorted.{All-permutation}
use Rattle.cat_model.specs.RowSets.{has_row}
use Rattle.cat_query.specs.View.{query_of}
use Rattle.cat_views.specs.cat_segment.RowParts.{rows_of_parts}
use Rattle.cat_search.specs.Candidates.{IsBestAt, mark_standing}
use Rattle.cat_search.specs.Rows.{row_standing}
use Rattle.cat_search.proofs.Gathered.{standings_at}
use Rattle.cat_search.proofs.Tested.{live_long}
use Rattle.cat_search.proofs.InRange.{as_many_pass, count_is, in_run, taken_is}
use Rattle.cat_search.proofs.gathering.offer_in_order.Goals as goal

pub count_live-total-requires : goal.count_live-total-requires
count_live-total-requires c =
    let leaf = c.args.leaf.now in
    let o = c.args.wanted.now.order in
    let q = query_of c.args.query.now in
    let rs = leaf.segment.rows in
    let ranks = c.of-ranks.result in
    let walk = rows_of_parts c.in-Some.range.walk in
    let rows = c.in-Some.range.rows.now in
    let is : ranks ≡ map (row_standing o) rs = c.of-ranks.ensures ∙ ap (λ t. map (row_standing o) t.rows) c.segment.ensures in
    let run = in_run q rs ranks o is walk (c.in-Some.ensures.walk rs is) in
    let within = All-permutation (λ row. row < length ranks) walk rows c.in-Some.ensures.rows run.within in
    let live = c.live_in-live in
    let long = live_long live.result leaf live.ensures.rows live.ensures.long in
    subst (λ (n : ℕ). All (λ row. row < n) rows) (ap length is ∙ length-map rs (row_standing o) ∙ sym long) within

pub offer_range-requires-clause-run : goal.offer_range-requires-clause-run
offer_range-requires-clause-run c =
    let leaf = c.args.leaf.now in
    let o = c.args.wanted.now.order in
    let q = query_of c.args.query.now in
    let rs = leaf.segment.rows in
    let ranks = c.of-ranks.result in
    let is : ranks ≡ map (row_standing o) rs = c.of-ranks.ensures ∙ ap (λ t. map (row_standing o) t.rows) c.segment.ensures in
    in_run q rs ranks o is (rows_of_parts c.in-Some.range.walk) (c.in-Some.ensures.walk rs is)

pub returns-clause-total : goal.returns-clause-total
returns-clause-total c =
    let leaf = c.args.leaf.now in
    let o = c.args.wanted.now.order in
    let q = query_of c.args.query.now in
    let rs = leaf.segment.rows in
    let ranks = c.of-ranks.result in
    let walk = rows_of_parts c.in-Some.range.walk in
    let is : ranks ≡ map (row_standing o) rs = c.of-ranks.ensures ∙ ap (λ t. map (row_standing o) t.rows) c.segment.ensures in
    let live = c.live_in-live in
    let long = live_long live.result leaf live.ensures.rows live.ensures.long in
    c.count_live-total.ensures ∙ as_many_pass walk c.in-Some.range.rows.now (has_row leaf.live) c.in-Some.ensures.rows
    ∙ count_is q rs ranks o is walk (c.in-Some.ensures.walk rs is) leaf.live long

pub returns-clause-best : goal.returns-clause-best
returns-clause-best c = λ ps h.
    let leaf = c.args.leaf.now in
    let o = c.args.wanted.now.order in
    let q = query_of c.args.query.now in
    let rs = leaf.segment.rows in
    let ranks = c.of-ranks.result in
    let walk = rows_of_parts c.in-Some.range.walk in
    let is : ranks ≡ map (row_standing o) rs = c.of-ranks.ensures ∙ ap (λ t. map (row_standing o) t.rows) c.segment.ensures in
    let mark = mark_standing c.args.wanted.now.mark in
    let live = c.live_in-live in
    let long = live_long live.result leaf live.ensures.rows live.ensures.long in
    let kept = c.offer_range.new.best in
    let best = c.in_ok-offer_range.ensures.best ps h in
    let took = subst (λ s. IsBestAt kept (ps ++ standings_at mark ranks (filter (has_row s) walk))) live.ensures.rows best in
    taken_is q rs ranks o is walk (c.in-Some.ensures.walk rs is) leaf.live long mark kept ps took

pub offer_range-requires-clause-long : goal.offer_range-requires-clause-long
offer_range-requires-clause-long c =
    let o = c.args.wanted.now.order in
    let is : c.of-ranks.result ≡ map (row_standing o) c.args.leaf.now.segment.rows = c.of-ranks.ensures ∙ ap (λ t. map (row_standing o) t.rows) c.segment.ensures in
    c.live_in-live.ensures.long ∙ sym (ap length is ∙ length-map c.args.leaf.now.segment.rows (row_standing o))
