use Rattle.std.proofs.Common.{◌≡◌, ◌≤◌, drop, length}
use Rattle.cat_query.specs.View.{clauses_of}
use Rattle.cat_query.specs.Same.{same_query}
use Rattle.cat_query.proofs.equality.+same.Given as goal

abbrev pub invariant-same_clauses-loop-i : goal.invariant-same_clauses-loop-i
invariant-same_clauses-loop-i l = record {
  within : l.i ≤ length l.b;
  same : same_query (clauses_of (drop l.i l.a)) (clauses_of (drop l.i l.b)) ≡ same_query (clauses_of l.a) (clauses_of l.b);
}
