use Rattle.std.proofs.Common.{not, rules, tests, option_map, sym, subst}
use Rattle.std.proofs.lemmas.List.Sorted.{IsPartitionPoint-from_clause}
use Rattle.cat_base.specs.Texts.{IsTextSet}
use Rattle.cat_search.specs.OrdinalBars.{is_above_end}
use Rattle.cat_search.proofs.OrdinalBars.{parted_high, above_from}
use Rattle.cat_search.proofs.ordinal_bar.first_above.Goals as goal

pub returns : goal.returns
returns c =
    let texts = c.as_slice.result.now in
    let high = option_map (λ a. a.now) c.args.high in
    above_from high texts c.args.dictionary.now c.partition_point.result c.as_slice.ensures.value
    (IsPartitionPoint-from_clause (λ t. not (is_above_end t high)) texts c.partition_point.result c.partition_point.ensures.partitioned (parted_high texts (subst IsTextSet (sym c.as_slice.ensures.value) c.as_slice.ensures.sorted) high) (λ x r q k. search (rules, tests)))
