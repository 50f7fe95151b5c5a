use Rattle.std.proofs.Common.{rules, tests}
use Rattle.std.proofs.lemmas.List.Sorted.{IsPartitionPoint-from_clause}
use Rattle.cat_model.specs.Text.{has_prefix}
use Rattle.cat_columns.proofs.inverted.Intervals.{parted_prefix}
use Rattle.cat_columns.proofs.inverted.ranges.count_with_prefix.Goals as goal

pub returns-clause-point : goal.returns-clause-point
returns-clause-point c =
    IsPartitionPoint-from_clause (has_prefix c.args.prefix.now) c.args.words.now c.partition_point.result c.partition_point.ensures.partitioned (parted_prefix c.args.words.now c.requires.sorted c.args.prefix.now c.requires.from) (λ x r q k. search (rules, tests))
