use Rattle.std.proofs.Common.{rules, tests}
use Rattle.std.proofs.lemmas.List.Sorted.{IsPartitionPoint-from_clause}
use Rattle.std.specs.Option.{option_map}
use Rattle.cat_model.specs.Text.{text_le}
use Rattle.cat_model.specs.Query.{open_or}
use Rattle.cat_columns.proofs.inverted.Intervals.{parted_high}
use Rattle.cat_columns.proofs.inverted.ranges.count_up_to.Goals as goal

pub returns-clause-point : goal.returns-clause-point
returns-clause-point c =
    let words = c.args.words.now in
    let high = option_map (λ a. a.now) c.args.high in
    IsPartitionPoint-from_clause (λ w. open_or (text_le w) high) words c.partition_point.result c.partition_point.ensures.partitioned (parted_high words c.requires high) (λ x r q k. search (rules, tests))
