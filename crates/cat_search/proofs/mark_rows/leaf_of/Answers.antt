use Rattle.std.proofs.Common.{◌≡◌, ◌+◌, ◌-◌, ◌/◌, ◌<◌, suc, drop, arith, subst}
use Rattle.std.specs.List.{AllByRecursion}
use Rattle.std.proofs.lemmas.Grind.{common_steps}
use Rattle.cat_model.proofs.Places.{each_pair}
use Rattle.cat_views.proofs.RowSearch.{segments_below, segments_above, found_in}
use Rattle.cat_views.specs.Rows.{all_rows}
use Rattle.cat_search.proofs.mark_rows.leaf_of.Goals as goal

pub loop-high-preserved-then-first_number-number : goal.loop-high-preserved-then-first_number-number
loop-high-preserved-then-first_number-number c =
    let leaves = c.args.leaves.now in
    let number = c.first_number.ensures.number in
    record {
      order = omega arith;
      within = c.loop-high.invariant.within;
      below = segments_below c.args.number leaves (c.loop-high.low + (c.loop-high.high - c.loop-high.low) / 2) c.index-leaves-middle.result
          (each_pair (λ a b. a.number < b.number) (all_rows leaves) c.requires) (omega arith) c.index-leaves-middle.is c.first_number.ensures.some (omega (arith, number, c.if-first_number-number.true));
      above = c.loop-high.invariant.above;
    }

pub loop-high-preserved : goal.loop-high-preserved
loop-high-preserved c =
    let leaves = c.args.leaves.now in
    let number = c.first_number.ensures.number in
    record {
      order = omega arith;
      within = omega arith;
      below = c.loop-high.invariant.below;
      above = segments_above c.args.number leaves (c.loop-high.low + (c.loop-high.high - c.loop-high.low) / 2) c.index-leaves-middle.result
          (each_pair (λ a b. a.number < b.number) (all_rows leaves) c.requires) (omega arith) c.index-leaves-middle.is c.first_number.ensures.some (omega (arith, number, c.if-first_number-number.false));
    }

pub returns : goal.returns
returns c =
    let leaves = c.args.leaves.now in
    let next : c.loop-high.high ≡ suc c.loop-high.low = omega arith in
    found_in c.args.number leaves c.loop-high.low c.index-leaves-low.result (omega arith) c.index-leaves-low.is c.loop-high.invariant.below
    (subst (λ i. AllByRecursion (λ r. c.args.number < r.number) (all_rows (drop i leaves))) next c.loop-high.invariant.above)

pub loop-high-init : goal.loop-high-init
loop-high-init c = grind (arith, common_steps)
