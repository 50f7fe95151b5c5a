use Rattle.std.proofs.Common.{◌≤◌, ap, length, arith, rules}
use Rattle.cat_columns.proofs.Cuts.{rows_ends, row_texts, row_bound, row_start, row_end}
use Rattle.cat_columns.proofs.Ordinals.{ordinals_laid}
use Rattle.cat_columns.proofs.sets.SetColumn.ordinals.Goals as goal

pub start_of-requires : goal.start_of-requires
start_of-requires c = omega (arith, c.requires, ap length c.deref-2.ensures.value, rows_ends _ _ _ c.args.self.now c.self.invariant c.self.view_is)

pub index-requires : goal.index-requires
index-requires c = omega (arith, c.requires, ap length c.deref-2.ensures.value, c.deref-2.ensures.len, rows_ends _ _ _ c.args.self.now c.self.invariant c.self.view_is)

pub offset_bounds-deref-start_of : goal.offset_bounds-deref-start_of
offset_bounds-deref-start_of c =
    let within : c.start_of.result ≤ length c.deref.result.now = row_start _ _ _ c.args.self.now c.self.invariant c.self.view_is c.args.row c.deref-2.result.now c.deref.result.now c.start_of.result c.requires c.deref-2.ensures.value c.deref.ensures.value c.start_of.ensures in
    search rules

pub slice_bounds-result-count : goal.slice_bounds-result-count
slice_bounds-result-count c =
    (row_end _ _ _ c.args.self.now c.self.invariant c.self.view_is c.args.row c.deref-2.result.now c.deref.result.now c.start_of.result c.index.result.now c.requires c.deref-2.ensures.value c.deref.ensures.value c.start_of.ensures c.index.ensures).0

pub slice_bounds-result-start : goal.slice_bounds-result-start
slice_bounds-result-start c =
    let start_within : c.start_of.result ≤ length c.deref.result.now = row_start _ _ _ c.args.self.now c.self.invariant c.self.view_is c.args.row c.deref-2.result.now c.deref.result.now c.start_of.result c.requires c.deref-2.ensures.value c.deref.ensures.value c.start_of.ensures in
    let ends = row_end _ _ _ c.args.self.now c.self.invariant c.self.view_is c.args.row c.deref-2.result.now c.deref.result.now c.start_of.result c.index.result.now c.requires c.deref-2.ensures.value c.deref.ensures.value c.start_of.ensures c.index.ensures in
    let rise : c.start_of.result ≤ c.index.result.now = ends.0 in
    let end_within : c.index.result.now ≤ length c.deref.result.now = ends.1 in
    search rules

pub slice_bounds-result-end : goal.slice_bounds-result-end
slice_bounds-result-end c =
    let ends = row_end _ _ _ c.args.self.now c.self.invariant c.self.view_is c.args.row c.deref-2.result.now c.deref.result.now c.start_of.result c.index.result.now c.requires c.deref-2.ensures.value c.deref.ensures.value c.start_of.ensures c.index.ensures in
    let within : c.index.result.now ≤ length c.deref.result.now = ends.1 in
    search rules

pub returns-clause-value : goal.returns-clause-value
returns-clause-value c = row_texts _ _ _ c.args.self.now c.self.invariant c.self.view_is c.args.row c.deref-2.result.now c.deref.result.now c.start_of.result c.index.result.now c.requires c.deref-2.ensures.value c.deref.ensures.value c.start_of.ensures c.index.ensures

pub returns-clause-bound : goal.returns-clause-bound
returns-clause-bound c = row_bound _ _ _ c.args.self.now c.self.invariant c.self.view_is c.deref.result.now c.start_of.result c.index.result.now c.deref.ensures.value

pub returns-clause-laid : goal.returns-clause-laid
returns-clause-laid c =
    ordinals_laid c.args.self.now _ _
    (row_texts _ _ _ c.args.self.now c.self.invariant c.self.view_is c.args.row c.deref-2.result.now c.deref.result.now c.start_of.result c.index.result.now c.requires c.deref-2.ensures.value c.deref.ensures.value c.start_of.ensures c.index.ensures)
    (row_bound _ _ _ c.args.self.now c.self.invariant c.self.view_is c.deref.result.now c.start_of.result c.index.result.now c.deref.ensures.value)
