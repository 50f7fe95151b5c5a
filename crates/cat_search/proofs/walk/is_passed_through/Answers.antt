use Rattle.std.proofs.Common.{◌+◌, sym, ◌∙◌}
use Rattle.cat_search.specs.Candidates.{mark_standing}
use Rattle.cat_search.proofs.Stepped.{through_passed}
use Rattle.cat_search.proofs.Walked.{passed_from}
use Rattle.cat_search.proofs.walk.is_passed_through.Goals as goal

pub returns-in-Some : goal.returns-in-Some
returns-in-Some c = λ t.
    let mark = mark_standing c.args.mark.now in
    let ranks = c.args.ranks.now in
    let row = c.in-Some.row in
    let out = passed_from mark ranks row (sym c.is_passed.ensures ∙ t) in
    through_passed mark ranks c.args.walk (c.args.index + 1) row c.requires.run c.in-Some.ensures out
