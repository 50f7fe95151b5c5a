use Rattle.std.proofs.Common.{◌∙◌, sym}
use Rattle.std.specs.List.{flat_map}
use Rattle.cat_model.specs.View.{live_rows}
use Rattle.cat_views.proofs.RowSearch.{not_there, is_live, is_dead}
use Rattle.cat_search.proofs.mark_rows.live_row.Goals as goal

pub returns-in_err-row : goal.returns-in_err-row
returns-in_err-row c =
    let rows = flat_map live_rows c.args.leaves.now in
    rw c.from_residual-in_err-row.ensures (not_there c.args.number rows c.in_ok-leaf.leaf.now c.in_ok-leaf.ensures c.segment.result.now c.segment.ensures c.in_err-row.ensures.row)

pub returns-then-is_live : goal.returns-then-is_live
returns-then-is_live c =
    let rows = flat_map live_rows c.args.leaves.now in
    is_live c.args.number rows c.in_ok-leaf.leaf.now c.in_ok-leaf.ensures c.segment.result.now c.segment.ensures c.in_ok-row.ensures.rising c.in_ok-row.row c.in_ok-row.ensures.row
    c.live.result.now c.live.ensures.value (sym c.is_live.ensures ∙ c.if-is_live.true) c.segment-then-is_live.result.now c.segment-then-is_live.ensures

pub returns-else-is_live : goal.returns-else-is_live
returns-else-is_live c =
    let rows = flat_map live_rows c.args.leaves.now in
    is_dead c.args.number rows c.in_ok-leaf.leaf.now c.in_ok-leaf.ensures c.segment.result.now c.segment.ensures c.in_ok-row.ensures.rising c.in_ok-row.row c.in_ok-row.ensures.row
    c.live.result.now c.live.ensures.value (sym c.is_live.ensures ∙ c.if-is_live.false)
