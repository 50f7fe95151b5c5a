use Rattle.std.proofs.Common.{◌≡◌, ℕ, ◌+◌, ◌*◌, ◌^◌, ◌<◌, ◌≤◌, arith, below_more, add-one, ap, ◌∙◌, sym}
use Rattle.std.proofs.Math.Nat.{mul_assoc, mul-le-mul_left, pow-suc}
use Rattle.cat_merge.proofs.policy.level_of.Goals as goal

-- the bound of the next level
next : (least factor level : ℕ) → least * factor ^ level * factor ≡ least * factor ^ (level + 1)
next least factor level = mul_assoc least (factor ^ level) factor ∙ ap (λ n. least * n) (sym (rw add-one (pow-suc factor level)))

-- a bound that is doubled at least outgrows the level
outgrows : (level most factor : ℕ) → level < most → 2 ≤ factor → level + 1 < most * factor
outgrows level most factor low two = let more : most * 2 ≤ most * factor = mul-le-mul_left most two in omega (arith, low, more)

pub loop-most-preserved : goal.loop-most-preserved
loop-most-preserved c = record {
  most = ap (λ n. n * c.args.factor) c.loop-most.invariant.most ∙ next c.args.minimum c.args.factor c.loop-most.level;
  lower = below_more (λ j. c.args.minimum * c.args.factor ^ j < c.args.rows) c.loop-most.level c.loop-most.invariant.lower (omega (arith, c.loop-most.invariant.most));
  low = outgrows c.loop-most.level c.loop-most.most c.args.factor c.loop-most.invariant.low (omega arith);
}
