use Rattle.std.proofs.Common.{nat_le, rules}
use Rattle.std.proofs.lemmas.List.Sorted.{IsPartitionPoint-from_clause}
use Rattle.cat_segment.proofs.Through.{parted, is_up_to, is_above}
use Rattle.cat_segment.proofs.segment.count_through.Goals as goal

pub returns-clause-point : goal.returns-clause-point
returns-clause-point c =
    let at = IsPartitionPoint-from_clause (λ n. nat_le n c.args.number) c.args.numbers.now c.partition_point.result c.partition_point.ensures.partitioned
    (parted c.args.numbers.now c.args.number c.requires) (λ y r f' k. search rules) in
    ((λ k d from to. is_up_to _ c.args.number (at.0 k d from to)), (λ k d from to. is_above _ c.args.number (at.1 k d from to)))
