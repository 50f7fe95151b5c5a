use Rattle.std.proofs.Common.{◌<◌, ◌++◌, length, sym, ap, subst, ◌∙◌}
use Rattle.std.specs.List.{All}
use Rattle.cat_model.specs.View.{selected}
use Rattle.cat_views.specs.cat_segment.RowParts.{rows_of_parts}
use Rattle.cat_search.specs.Candidates.{IsBestAt, mark_standing}
use Rattle.cat_search.specs.Hits.{hit_rows}
use Rattle.cat_search.specs.Pages.{behind}
use Rattle.cat_search.proofs.Gathered.{on_ok}
use Rattle.cat_search.proofs.Missed.{missed_rows, missed_runs, missed_taken}
use Rattle.cat_search.proofs.Stepped.{left_rows, left_runs, taken_all}
use Rattle.cat_search.proofs.Walked.{walk_runs}
use Rattle.cat_search.proofs.offers.offer_hits.Goals as goal

pub steps_behind-rest-requires : goal.steps_behind-rest-requires
steps_behind-rest-requires c = walk_runs c.args.ranks.now (rows_of_parts c.in-Some-walk.walk) c.in-Some-walk.ensures

pub behind_misses-left-requires : goal.behind_misses-left-requires
behind_misses-left-requires c =
    let ranks = c.args.ranks.now in
    let rest = c.steps_behind-rest in
    let walk = rows_of_parts c.in-Some-walk.walk in
    let run = walk_runs ranks walk c.in-Some-walk.ensures in
    left_rows (mark_standing c.args.mark.now) ranks walk rest.result (length (hit_rows c.args.hits)) rest.ensures run c.requires

pub covers-requires : goal.covers-requires
covers-requires c =
    let hits = hit_rows c.args.hits in
    let rest = c.steps_behind-rest in
    let ranks = c.args.ranks.now in
    let walk = rows_of_parts c.in-Some-walk.walk in
    let run = walk_runs ranks walk c.in-Some-walk.ensures in
    let within = left_rows (mark_standing c.args.mark.now) ranks walk rest.result (length hits) rest.ensures run c.requires in
    subst (All (λ row. row < length hits)) (sym c.again.ensures) (missed_rows hits rest.result c.behind_misses-left.result c.behind_misses-left.ensures (λ row. row < length hits) within)

pub offer_walk-requires-clause-run : goal.offer_walk-requires-clause-run
offer_walk-requires-clause-run c =
    let rest = c.steps_behind-rest in
    let ranks = c.args.ranks.now in
    let walk = rows_of_parts c.in-Some-walk.walk in
    let run = left_runs (mark_standing c.args.mark.now) ranks walk rest.result rest.ensures (walk_runs ranks walk c.in-Some-walk.ensures) in
    missed_runs (hit_rows c.args.hits) rest.result c.behind_misses-left.result c.behind_misses-left.ensures ranks run

pub returns-then-covers-clause-best : goal.returns-then-covers-clause-best
returns-then-covers-clause-best c =
    let mark = mark_standing c.args.mark.now in
    let ranks = c.args.ranks.now in
    let hits = hit_rows c.args.hits in
    let rest = c.steps_behind-rest in
    let kept = c.offer_walk.new.best in
    let same = missed_taken hits rest.result c.behind_misses-left.result c.behind_misses-left.ensures mark ranks in
    let walk = rows_of_parts c.in-Some-walk.walk in
    let all = taken_all mark ranks hits walk rest.result rest.ensures c.in-Some-walk.ensures c.requires kept in
    on_ok _ _ (λ took ps h. all ps (subst (λ l. IsBestAt kept (ps ++ l)) same (took ps h))) c.offer_walk.result c.offer_walk.ensures.best

pub returns-in-Live-clause-best : goal.returns-in-Live-clause-best
returns-in-Live-clause-best c =
    let mark = mark_standing c.args.mark.now in
    let same = c.rows.ensures ∙ c.live.ensures.value ∙ sym (ap hit_rows c.in-Live.is) in
    on_ok _ _ (λ took ps h. subst (λ s. IsBestAt c.offer_rows.new.best (ps ++ behind mark (selected s c.args.ranks.now))) same (took ps h)) c.offer_rows.result c.offer_rows.ensures.best

pub offer_listed-requires : goal.offer_listed-requires
offer_listed-requires c = sym (ap (λ h. length (hit_rows h)) c.in-Listed.is) ∙ c.requires

pub returns-in-Listed-clause-best : goal.returns-in-Listed-clause-best
returns-in-Listed-clause-best c =
    let mark = mark_standing c.args.mark.now in
    let same = sym (ap hit_rows c.in-Listed.is) in
    on_ok _ _ (λ took ps h. subst (λ s. IsBestAt c.offer_listed.new.best (ps ++ behind mark (selected s c.args.ranks.now))) same (took ps h)) c.offer_listed.result c.offer_listed.ensures.best

pub returns : goal.returns
returns c =
    let mark = mark_standing c.args.mark.now in
    record {
      limit = c.offer_rows-2.ensures.limit;
      best = on_ok _ _ (λ took ps h. subst (λ s. IsBestAt c.offer_rows-2.new.best (ps ++ behind mark (selected s c.args.ranks.now))) c.in_ok-rows.ensures.ok (took ps h)) c.offer_rows-2.result c.offer_rows-2.ensures.best;
    }
