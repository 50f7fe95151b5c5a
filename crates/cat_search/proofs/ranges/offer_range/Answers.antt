use Rattle.std.proofs.Common.{◌++◌, subst}
use Rattle.cat_views.specs.cat_segment.RowParts.{rows_of_parts}
use Rattle.cat_search.specs.Candidates.{IsBestAt, mark_standing}
use Rattle.cat_search.specs.Hits.{hit_rows}
use Rattle.cat_search.proofs.Gathered.{on_ok}
use Rattle.cat_search.proofs.Stepped.{left_runs, taken_rest}
use Rattle.cat_search.proofs.ranges.offer_range.Goals as goal

pub offer_walk-requires-clause-run : goal.offer_walk-requires-clause-run
offer_walk-requires-clause-run c =
    let rest = c.steps_behind-rest in
    left_runs (mark_standing c.args.mark.now) c.args.ranks.now (rows_of_parts c.args.range) rest.result rest.ensures c.requires.run

pub returns-clause-best : goal.returns-clause-best
returns-clause-best c =
    let rest = c.steps_behind-rest in
    let rows = rows_of_parts c.args.range in
    let same = taken_rest (mark_standing c.args.mark.now) c.args.ranks.now (hit_rows c.args.live.now) rows rest.result rest.ensures in
    let walk = c.offer_walk in
    on_ok _ _ (λ took ps h. subst (λ l. IsBestAt walk.new.best (ps ++ l)) same (took ps h)) walk.result walk.ensures.best
