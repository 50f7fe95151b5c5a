use Rattle.std.proofs.Common.{◌≡◌, ◌++◌, ℕ, List, length, sym, ap, ◌∙◌, subst}
use Rattle.std.specs.List.{range_with_len}
use Rattle.std.specs.List.Sorted.{IsPermutation}
use Rattle.cat_columns.specs.Merged.{moved}
use Rattle.cat_views.specs.cat_segment.Contents.{contents_of}
use Rattle.cat_views.specs.cat_segment.Index.{AreAllRows}
use Rattle.cat_merge.proofs.Cuts.{on_ok}
use Rattle.cat_merge.proofs.Ordered.{number_rows}
use Rattle.cat_merge.proofs.Shuffled.{rows_there, moved_rows}
use Rattle.cat_merge.proofs.number_order.add_input.Goals as goal

pub add_moved-requires : goal.add_moved-requires
add_moved-requires c =
    let all : AreAllRows (length c.args.input.now.segment.rows) c.rising.result.now = number_rows c.args.index c.args.input.now.segment.rows _ c.rising.result.now (ap contents_of (sym c.in-Number.is) ∙ c.column.ensures.contents) c.rising.ensures in
    rows_there (length c.args.row_map.now) c.rising.result.now (subst (λ (n : ℕ). AreAllRows n c.rising.result.now) (sym c.requires.long) all)

pub returns : goal.returns
returns c =
    let all : AreAllRows (length c.args.input.now.segment.rows) c.rising.result.now = number_rows c.args.index c.args.input.now.segment.rows _ c.rising.result.now (ap contents_of (sym c.in-Number.is) ∙ c.column.ensures.contents) c.rising.ensures in
    let rows : List ℕ = moved c.args.row_map.now c.rising.result.now in
    on_ok c.add_moved.result (c.add_moved.new.order.items ≡ c.args.order.now.items ++ rows)
    ((run : List ℕ) × IsPermutation (moved c.args.row_map.now (range_with_len 0 (length c.args.row_map.now))) run × (c.add_moved.new.order.items ≡ c.args.order.now.items ++ run))
    c.add_moved.ensures (λ e. (rows, moved_rows c.args.row_map.now c.rising.result.now (length c.args.input.now.segment.rows) c.requires.long all, e))
