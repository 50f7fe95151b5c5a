use Rattle.std.proofs.Common.{sym, subst}
use Rattle.cat_views.specs.cat_segment.RowParts.{rows_of_parts}
use Rattle.cat_search.specs.Candidates.{mark_standing}
use Rattle.cat_search.specs.Walks.{IsRestOfWalk}
use Rattle.cat_search.proofs.Stepped.{left_all, left_from}
use Rattle.cat_search.proofs.walk.steps_behind.Goals as goal

pub returns-then-is_none : goal.returns-then-is_none
returns-then-is_none c =
    let rows = rows_of_parts c.args.walk in
    let mark = mark_standing c.args.mark.now in
    subst (IsRestOfWalk mark c.args.ranks.now rows) (sym c.of.ensures) (left_all mark c.args.ranks.now rows)

pub returns-then-index-len : goal.returns-then-index-len
returns-then-index-len c =
    let mark = mark_standing c.args.mark.now in
    let index = c.parts_passed-index in
    subst (IsRestOfWalk mark c.args.ranks.now (rows_of_parts c.args.walk)) (sym c.behind.ensures)
    (left_from mark c.args.ranks.now c.args.walk index.result index.ensures.passed)
