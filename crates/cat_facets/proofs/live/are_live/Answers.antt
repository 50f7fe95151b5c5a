use Rattle.std.proofs.Common.{◌≡◌, ◌∙◌, length, sym, arith}
use Rattle.cat_facets.proofs.LiveTotals.{all_live, one_live_more, same_sets}
use Rattle.cat_facets.proofs.live.are_live.Goals as goal

pub loop-index-preserved : goal.loop-index-preserved
loop-index-preserved c =
    let sets = c.args.live.now in
    let leaves = c.args.leaves.now in
    let long : length sets ≡ length leaves = c.if-live-leaves.false in
    one_live_more sets leaves c.loop-index.index c.index-live-index.result c.index-leaves-index.result (omega (arith, long)) (omega arith) c.loop-index.invariant c.index-live-index.is c.index-leaves-index.is
    (same_sets c.index-live-index.result c.live.result.now (sym c.if-ne.false ∙ c.ne.ensures) ∙ c.live.ensures.value)

pub returns : goal.returns
returns c = λ _.
    let long : length c.args.live.now ≡ length c.args.leaves.now = c.if-live-leaves.false in
    all_live c.args.live.now c.args.leaves.now c.loop-index.index (omega (arith, long)) (omega arith) c.loop-index.invariant
