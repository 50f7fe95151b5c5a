use Rattle.std.proofs.Common.{◌+◌, ◌∙◌, count_by, refl, sym, ap, arith}
use Rattle.std.proofs.lemmas.List.{take_all}
use Rattle.std.proofs.lemmas.List.Sums.{count_by_more_yes, count_by_more_no}
use Rattle.std.proofs.lemmas.Grind.{common_steps}
use Rattle.cat_model.specs.RowSets.{has_row}
use Rattle.cat_search.proofs.ranges.count_among.Goals as goal
use Rattle.cat_search.proofs.ranges.count_among.Goals.{then-contains, else-contains}

pub loop-row-init : goal.loop-row-init
loop-row-init c = refl

pub loop-row-preserved : goal.loop-row-preserved
loop-row-preserved c =
    let live = has_row c.args.set.now in
    let rows = c.args.rows.now in
    let i = c.loop-row.row-index in
    elim c.if-contains.branch [
      | then-contains w ↦ w.count-is ∙ ap (λ n. n + 1) c.loop-row.invariant ∙ sym (count_by_more_yes live rows i 0 c.loop-row-test.true (sym c.contains.ensures ∙ w.if-contains.true))
      | else-contains w ↦ w.count-is ∙ c.loop-row.invariant ∙ sym (count_by_more_no live rows i 0 c.loop-row-test.true (sym c.contains.ensures ∙ w.if-contains.false))
    ]

pub returns : goal.returns
returns c = c.loop-row.invariant ∙ ap (count_by (has_row c.args.set.now)) (take_all c.loop-row.row-index c.args.rows.now c.loop-row-test.false)

pub contains-requires : goal.contains-requires
contains-requires c = c.requires c.loop-row.row-index 0 c.loop-row-test.true

pub overflow_add-count : goal.overflow_add-count
overflow_add-count c = grind (arith, common_steps)
