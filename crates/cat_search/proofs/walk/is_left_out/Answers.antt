use Rattle.std.proofs.Common.{sym, ap, ◌∙◌}
use Rattle.std.specs.Ordering.{is_lt}
use Rattle.cat_search.proofs.Kept.{not_less_from_test}
use Rattle.cat_search.proofs.KeyEnds.{full_by}
use Rattle.cat_search.proofs.Walked.{later_full}
use Rattle.cat_search.proofs.walk.is_left_out.Goals as goal

pub returns-in-Some : goal.returns-in-Some
returns-in-Some c = λ t.
    later_full c.args.best.now c.in-Some.last.now c.args.candidate.now (full_by c.args.best.now c.in-Some.last.now c.in-Some.ensures)
    (ap is_lt (sym c.cmp.ensures) ∙ not_less_from_test c.cmp.result c.is_ge.result c.is_ge.ensures t)
