use Rattle.std.proofs.Common.{◌≡◌, ℕ, ◌<◌, true}
use Rattle.cat_columns.specs.Bits.{is_set}
use Rattle.cat_columns.proofs.covering.are_set.Given as goal

abbrev pub invariant-loop-k : goal.invariant-loop-k
invariant-loop-k l = (k : ℕ) → k < l.k → is_set l.blocks k ≡ true
