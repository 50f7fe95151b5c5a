use Rattle.std.proofs.Common.{rules, refl, sym, ◌∙◌}
use Rattle.std.proofs.lemmas.Bool.{true≢false}
use Rattle.cat_columns.proofs.Rising.{increasing_tested}
use Rattle.cat_columns.proofs.RowTests.{row_bounds, row_more, row_of, rows_all, next_start}
use Rattle.cat_columns.proofs.sets.rows_rise.Goals as goal

pub slice_bounds-rises-count : goal.slice_bounds-rises-count
slice_bounds-rises-count c = (row_bounds c.args.ends.now c.args.ordinals.now c.requires.parts c.loop-end.end-index c.loop-end.from c.loop-end-test.true c.loop-end.invariant.from).0

pub slice_bounds-rises-start : goal.slice_bounds-rises-start
slice_bounds-rises-start c =
    let bounds = row_bounds c.args.ends.now c.args.ordinals.now c.requires.parts c.loop-end.end-index c.loop-end.from c.loop-end-test.true c.loop-end.invariant.from in
    let low = bounds.0 in
    let high = bounds.1 in search rules

pub slice_bounds-rises-end : goal.slice_bounds-rises-end
slice_bounds-rises-end c =
    let bounds = row_bounds c.args.ends.now c.args.ordinals.now c.requires.parts c.loop-end.end-index c.loop-end.from c.loop-end-test.true c.loop-end.invariant.from in
    let low = bounds.0 in
    let high = bounds.1 in search rules

pub returns-then-not-rises : goal.returns-then-not-rises
returns-then-not-rises c = (
  λ e. absurd (true≢false (sym e)),
  λ all. absurd (true≢false (sym ((increasing_tested _ _ c.rises.ensures).1
      (row_of c.args.ends.now c.args.ordinals.now c.requires.parts c.loop-end.end-index c.loop-end.from c.loop-end-test.true c.loop-end.invariant.from all)) ∙ c.if-not-rises.true)),
)

pub loop-end-preserved : goal.loop-end-preserved
loop-end-preserved c = record {
  from = next_start c.args.ends.now c.loop-end.end-index;
  rise = row_more c.args.ends.now c.args.ordinals.now c.requires.parts c.loop-end.end-index c.loop-end.from c.loop-end-test.true c.loop-end.invariant.from c.loop-end.invariant.rise
      ((increasing_tested _ _ c.rises.ensures).0 c.if-not-rises.false);
}

pub returns : goal.returns
returns c = (λ _. rows_all c.args.ends.now c.args.ordinals.now c.requires.parts c.loop-end.end-index c.loop-end-test.false c.loop-end.invariant.rise, λ _. refl)
