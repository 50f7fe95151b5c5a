use Rattle.std.proofs.Common.{rules, tests, option_map, sym, subst}
use Rattle.std.proofs.lemmas.List.Sorted.{IsPartitionPoint-from_clause}
use Rattle.cat_base.specs.Texts.{IsTextSet}
use Rattle.cat_search.specs.OrdinalBars.{is_below_end}
use Rattle.cat_search.proofs.OrdinalBars.{parted_low, below_before}
use Rattle.cat_search.proofs.ordinal_bar.first_from.Goals as goal

pub returns : goal.returns
returns c =
    let texts = c.as_slice.result.now in
    let low = option_map (λ a. a.now) c.args.low in
    below_before low texts c.args.dictionary.now c.partition_point.result c.as_slice.ensures.value
    (IsPartitionPoint-from_clause (λ t. is_below_end t low) texts c.partition_point.result c.partition_point.ensures.partitioned (parted_low texts (subst IsTextSet (sym c.as_slice.ensures.value) c.as_slice.ensures.sorted) low) (λ x r q k. search (rules, tests)))
