use Rattle.std.proofs.Common.{ℕ, ◌-◌, ◌<◌, ◌≤◌}
use Rattle.std.specs.Prelude.{Contains}
use Rattle.cat_columns.proofs.covering.covers.Given as goal

abbrev pub invariant-loop-next : goal.invariant-loop-next
invariant-loop-next l = record {
  after : l.from ≤ l.next;
  there : (n : ℕ) → l.from ≤ n → n < l.next → Contains l.numbers n;
}

abbrev pub decreases-loop-next : goal.decreases-loop-next
decreases-loop-next l = l.to - l.next
