use Rattle.std.proofs.Common.{◌≤◌, arith}
use Rattle.std.specs.Prelude.{max, ◌^◌}
use Rattle.std.proofs.Math.Nat.{le-max_left, max-le}
use Rattle.cat_commits.proofs.reading.Nexts.{least_more}
use Rattle.cat_commits.proofs.reading.numbers.next_numbers.Goals as goal

pub loop-name-preserved : goal.loop-name-preserved
loop-name-preserved c = record {
  least = least_more c.args.names.now c.loop-name.name-index _ c.loop-name.segment c.loop-name.generation c.past-least.result.0 c.past-least.result.1 c.max-segment.result c.max-generation.result
      c.loop-name-test.true c.past-least.ensures.least c.loop-name.invariant.least c.max-segment.ensures c.max-generation.ensures;
  some = (omega (arith, c.max-segment.ensures, le-max_left c.past-least.result.0 c.loop-name.segment, c.past-least.ensures.some.0), omega (arith, c.max-generation.ensures, le-max_left c.past-least.result.1 c.loop-name.generation, c.past-least.ensures.some.1));
  fit = (
    let top : max c.past-least.result.0 c.loop-name.segment ≤ 2 ^ 63 = max-le c.past-least.ensures.fit.0 c.loop-name.invariant.fit.0 in omega (arith, c.max-segment.ensures, top),
    let top : max c.past-least.result.1 c.loop-name.generation ≤ 2 ^ 63 = max-le c.past-least.ensures.fit.1 c.loop-name.invariant.fit.1 in omega (arith, c.max-generation.ensures, top),
  );
}

pub returns-clause-next : goal.returns-clause-next
returns-clause-next c = record {
  some = c.loop-name.invariant.some;
  past = λ k d lt. (c.loop-name.invariant.least c.loop-name.segment c.loop-name.generation (omega arith) (omega arith)).1 (omega arith, omega arith) k d (omega arith) (omega arith);
  least = λ m h a b past. (c.loop-name.invariant.least m h a b).0 (λ k d low lt. past k d (omega arith));
}
