use Rattle.std.proofs.Common.{arith, rules, tests}
use Rattle.std.proofs.lemmas.List.Sorted.{IsPartitionPoint-from_clause}
use Rattle.cat_search.specs.Candidates.{mark_standing}
use Rattle.cat_search.specs.Walks.{is_passed}
use Rattle.cat_search.proofs.Walked.{parted_passed, passed_before}
use Rattle.cat_search.proofs.walk.rows_passed.Goals as goal

pub returns-clause-passed : goal.returns-clause-passed
returns-clause-passed c =
    let mark = mark_standing c.args.mark.now in
    let ranks = c.args.ranks.now in
    let rows = c.args.rows.now in
    let point = IsPartitionPoint-from_clause (is_passed mark ranks) rows c.partition_point.result c.partition_point.ensures.partitioned (parted_passed mark ranks rows c.requires) (λ x r q k. search (rules, tests)) in
    passed_before mark ranks rows c.partition_point.result c.partition_point.ensures.bound (λ k d under. point.0 k d (omega (arith)) under)
