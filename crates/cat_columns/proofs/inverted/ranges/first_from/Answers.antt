use Rattle.std.proofs.Common.{not, rules, tests}
use Rattle.std.proofs.lemmas.List.Sorted.{IsPartitionPoint-from_clause}
use Rattle.std.specs.Option.{option_map}
use Rattle.cat_model.specs.Text.{text_le}
use Rattle.cat_model.specs.Query.{open_or}
use Rattle.cat_columns.proofs.inverted.Intervals.{parted_low, not_true, not_false}
use Rattle.cat_columns.proofs.inverted.ranges.first_from.Goals as goal

pub returns-clause-point : goal.returns-clause-point
returns-clause-point c =
    let words = c.args.words.now in
    let low = option_map (λ a. a.now) c.args.low in
    let point = IsPartitionPoint-from_clause (λ w. not (open_or (λ a. text_le a w) low)) words c.partition_point.result c.partition_point.ensures.partitioned (parted_low words c.requires low) (λ x r q k. search (rules, tests)) in
    (λ k d from to. not_true _ (point.0 k d from to), λ k d from to. not_false _ (point.1 k d from to))
