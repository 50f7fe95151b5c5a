use Rattle.std.proofs.Common.{◌≡◌, ℕ, ◌-◌, ◌*◌, ◌^◌, ◌<◌}
use Rattle.cat_merge.proofs.policy.level_of.Given as goal

-- no lower level has room for the rows; the level itself stays small, since the bound outgrows it
abbrev pub invariant-loop-most : goal.invariant-loop-most
invariant-loop-most l = record {
  most : l.most ≡ l.fn.minimum * l.fn.factor ^ l.level;
  lower : (j : ℕ) → j < l.level → l.fn.minimum * l.fn.factor ^ j < l.fn.rows;
  low : l.level < l.most;
}

abbrev pub decreases-loop-most : goal.decreases-loop-most
decreases-loop-most l = l.rows - l.most
