use Rattle.std.proofs.Common.{◌≡◌, ◌++◌, map, drop}
use Rattle.cat_query.specs.View.{signed}
use Rattle.cat_query.proofs.copies.+copying.Given as goal

abbrev pub invariant-copy_clauses-loop-clause : goal.invariant-copy_clauses-loop-clause
invariant-copy_clauses-loop-clause l = map signed l.copied.items ++ map signed (drop l.clause-index l.clauses) ≡ map signed l.clauses
