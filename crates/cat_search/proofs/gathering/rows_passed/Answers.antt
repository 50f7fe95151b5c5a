use Rattle.std.proofs.Common.{◌≡◌, ap, arith}
use Rattle.cat_search.specs.Standings.{Rank}
use Rattle.cat_search.specs.Candidates.{standing_of, rank_of}
use Rattle.cat_search.proofs.Passed.{passed}
use Rattle.cat_search.proofs.gathering.rows_passed.Goals as goal

pub returns-clause-passed : goal.returns-clause-passed
returns-clause-passed c = λ hits long.
    let mark = c.in-Some.mark in
    let without_key : rank_of mark.rank ≡ Rank.missing = ap rank_of c.in-Missing.is in
    rw c.in-Some.is (passed (standing_of mark) c.rows_through.result hits c.args.segment.now.rows without_key (λ i d lt within. c.rows_through.ensures.point.0 i d (omega arith) lt))
