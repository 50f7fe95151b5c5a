use Rattle.cat_query.specs.View.{query_of}
use Rattle.cat_views.specs.cat_segment.RowParts.{rows_of_parts}
use Rattle.cat_search.proofs.InRange.{if_some, matched_rows}
use Rattle.cat_search.proofs.ranges.rows_in_order.Goals as goal

pub returns-clause-walk : goal.returns-clause-walk
returns-clause-walk c =
    let range = c.in_ok-range.range in
    let by = c.goes_by.ensures c.if-not-goes_by.false in
    let q = query_of c.args.query.now in
    let matched = matched_rows q c.args.order range.field.now range.low range.high by c.in_ok-range.ensures c.args.ranks.now in
    if_some _ _ (λ found w rs is. matched (rows_of_parts found.walk) w rs is) c.range.result c.range.ensures.walk
