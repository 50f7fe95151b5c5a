use Rattle.std.proofs.Common.{arith}
use Rattle.cat_search.proofs.walk.parts_passed.Goals as goal

pub loop-low-preserved-then-is_passed_through : goal.loop-low-preserved-then-is_passed_through
loop-low-preserved-then-is_passed_through c = record {
  order = omega (arith, c.loop-low-test.true);
  bound = c.loop-low.invariant.bound;
  passed = c.is_passed_through.ensures c.if-is_passed_through.true;
}

pub loop-low-preserved : goal.loop-low-preserved
loop-low-preserved c = record {
  order = omega (arith, c.loop-low-test.true);
  bound = omega (arith, c.loop-low-test.true, c.loop-low.invariant.bound);
  passed = c.loop-low.invariant.passed;
}
