use Rattle.std.proofs.Common.{refl, arith}
use Rattle.std.specs.List.{flat_map}
use Rattle.std.proofs.lemmas.Grind.{elements}
use Rattle.cat_model.specs.View.{live_rows}
use Rattle.cat_search.specs.Candidates.{standing_of}
use Rattle.cat_search.specs.Rows.{bare_record}
use Rattle.cat_search.proofs.Marks.{no_mark}
use Rattle.cat_search.proofs.Ranks.{found_mark}
use Rattle.cat_search.proofs.mark_rows.mark_in_leaves.Goals as goal

pub returns-in_default-live_row-clause-err : goal.returns-in_default-live_row-clause-err
returns-in_default-live_row-clause-err c =
    let rows = flat_map live_rows c.args.leaves.now in
    (refl, no_mark bare_record rows c.args.mark c.in-Some.number c.in-Some.is c.in_default-live_row.ensures)

pub returns-clause-ok : goal.returns-clause-ok
returns-clause-ok c =
    let rows = flat_map live_rows c.args.leaves.now in
    (found_mark c.args.order rows c.args.mark c.in-Some.number c.in-Some.is c.of.result c.in-Some-live_row.segment.now.rows c.in-Some-live_row.row (standing_of c.at.result)
    c.of.ensures c.in-Some-live_row.ensures c.at.ensures).0

pub returns-clause-has : goal.returns-clause-has
returns-clause-has c =
    let rows = flat_map live_rows c.args.leaves.now in
    (found_mark c.args.order rows c.args.mark c.in-Some.number c.in-Some.is c.of.result c.in-Some-live_row.segment.now.rows c.in-Some-live_row.row (standing_of c.at.result)
    c.of.ensures c.in-Some-live_row.ensures c.at.ensures).1

pub at-requires : goal.at-requires
at-requires c = grind (arith, elements)
