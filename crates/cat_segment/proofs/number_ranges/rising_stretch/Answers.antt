use Rattle.std.proofs.Common.{None, Option, ℤ, ap, drop, get_or, not, rules, tests, sym, ◌∙◌}
use Rattle.std.proofs.lemmas.List.Sorted.{IsPartitionPoint-from_clause}
use Rattle.std.specs.Ordering.{int_cmp}
use Rattle.std.specs.Prelude.{Bool}
use Rattle.cat_model.specs.Query.{has_some}
use Rattle.cat_segment.specs.Ranges.{lies_between}
use Rattle.cat_segment.proofs.Ranged.{at_most, at_least, at_most-stays, below-stays, between_rising, front_rises, parted_order, range_is}
use Rattle.cat_segment.proofs.number_ranges.rising_stretch.Goals as goal

pub returns-clause-rows : goal.returns-clause-rows
returns-clause-rows c =
    let values = c.args.column.now in
    let rows = c.args.rows.now in
    let front = c.split_at.result.0.now in
    let n = c.partition_point-count.result in
    let m = c.partition_point-passed.result in
    let p : Option ℤ → Bool = has_some (at_most c.args.high) in
    let q : Option ℤ → Bool = has_some (λ k. not (at_least c.args.low k)) in
    let r : Option ℤ → Bool = lies_between c.args.low c.args.high in
    let point = IsPartitionPoint-from_clause (λ row. p (get_or values row None)) rows n c.partition_point-count.ensures.partitioned
    (parted_order (int_cmp) (at_most c.args.high) (at_most-stays c.args.high) values rows c.requires) (λ x r q k. search (rules, tests)) in
    let rising = front_rises (int_cmp) p q r (between_rising c.args.low c.args.high) values rows front n
    c.partition_point-count.ensures.bound point c.split_at.ensures.front c.requires in
    let point2 = IsPartitionPoint-from_clause (λ row. q (get_or values row None)) front m
    c.partition_point-passed.ensures.partitioned
    (parted_order (int_cmp) (λ k. not (at_least c.args.low k)) (below-stays c.args.low) values front rising) (λ x r q k. search (rules, tests)) in
    ap (drop m) (sym c.split_at.ensures.front) ∙ range_is (int_cmp) p q r (between_rising c.args.low c.args.high) values rows front n
    c.partition_point-count.ensures.bound point c.split_at.ensures.front m c.partition_point-passed.ensures.bound point2
