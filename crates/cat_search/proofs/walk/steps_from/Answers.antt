use Rattle.std.proofs.Common.{◌+◌, ◌++◌, sym, ap, subst, ◌∙◌}
use Rattle.cat_views.specs.cat_segment.RowParts.{rows_of_parts}
use Rattle.cat_search.specs.Candidates.{mark_standing}
use Rattle.cat_search.specs.Steps.{rows_of_parts_from}
use Rattle.cat_search.specs.Walks.{IsRestOfWalk}
use Rattle.cat_search.proofs.Stepped.{left_part, part_runs}
use Rattle.cat_search.proofs.walk.steps_from.Goals as goal

pub rows_passed-requires : goal.rows_passed-requires
rows_passed-requires c =
    let part = c.part-part in
    let mark = mark_standing c.args.mark.now in
    part_runs mark c.args.ranks.now c.args.walk c.args.index part.result.now c.requires.part part.ensures c.requires.run

pub returns : goal.returns
returns c =
    let mark = mark_standing c.args.mark.now in
    let i = c.args.index in
    let ranks = c.args.ranks.now in
    let walk = c.args.walk in
    let part = c.part-part in
    let passed = c.rows_passed in
    let same = ap (λ l. l ++ rows_of_parts_from walk (i + 1)) (sym c.split_at.ensures.back) ∙ sym c.behind.ensures in
    subst (IsRestOfWalk mark ranks (rows_of_parts walk)) same
    (left_part mark ranks walk i part.result.now passed.result c.requires.part part.ensures c.requires.passed passed.ensures.passed)
