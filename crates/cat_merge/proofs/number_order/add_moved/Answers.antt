use Rattle.std.proofs.Common.{◌++◌, refl, sym, ap, ◌∙◌}
use Rattle.std.proofs.lemmas.List.{append-nil, take_all}
use Rattle.std.proofs.lemmas.Result.{IfOk-from_err}
use Rattle.cat_columns.specs.Merged.{moved}
use Rattle.cat_merge.proofs.Shuffled.{moved_more}
use Rattle.cat_merge.proofs.number_order.add_moved.Goals as goal

pub bounds-row_map-row : goal.bounds-row_map-row
bounds-row_map-row c = c.requires c.loop-row.row-index 0 c.loop-row-test.true

pub loop-row-init : goal.loop-row-init
loop-row-init c = sym (append-nil c.args.order.now.items)

pub loop-row-preserved : goal.loop-row-preserved
loop-row-preserved c =
    moved_more c.args.row_map.now c.args.rows.now c.args.order.now.items c.loop-row.order.items c.add_row.new.order.items c.loop-row.row-index _ c.loop-row-test.true refl c.in_ok-add_row.ensures
    c.loop-row.invariant

pub returns-in_err-add_row : goal.returns-in_err-add_row
returns-in_err-add_row c = IfOk-from_err _ _ c.from_residual.ensures.0

pub returns : goal.returns
returns c = c.loop-row.invariant ∙ ap (λ l. c.args.order.now.items ++ moved c.args.row_map.now l) (take_all c.loop-row.row-index c.args.rows.now c.loop-row-test.false)
