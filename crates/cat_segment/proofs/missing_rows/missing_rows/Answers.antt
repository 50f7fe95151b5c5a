use Rattle.std.proofs.Common.{◌∷◌, ◌++◌, [], None, cond, get_or, sym, ap, ◌∙◌}
use Rattle.cat_segment.specs.Valued.{same_value}
use Rattle.cat_segment.proofs.Grouped.{rows_more}
use Rattle.cat_segment.proofs.missing_rows.missing_rows.Goals as goal

pub loop-row-preserved : goal.loop-row-preserved
loop-row-preserved c =
    let values = c.args.values.now in
    let row = c.loop-row.row in
    c.in_ok-add_missing.ensures.ok ∙ ap (λ l. l ++ cond (same_value None (get_or values row None)) (row ∷ []) []) c.loop-row.invariant ∙ sym (rows_more (λ r. same_value None (get_or values r None)) row)
