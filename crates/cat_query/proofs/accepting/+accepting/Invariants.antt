use Rattle.std.proofs.Common.{◌≡◌, ◌||◌, drop}
use Rattle.cat_model.specs.Query.{obeyed, supported}
use Rattle.cat_query.specs.View.{clauses_of}
use Rattle.cat_query.proofs.accepting.+accepting.Given as goal

abbrev pub invariant-clauses_accept-loop-clause : goal.invariant-clauses_accept-loop-clause
invariant-clauses_accept-loop-clause l =
    let rest = clauses_of (drop l.clause-index l.clauses) in
    record {
      obeyed : obeyed (clauses_of l.clauses) l.item ≡ obeyed rest l.item;
      supported : supported (clauses_of l.clauses) l.item ≡ (l.supported || supported rest l.item);
    }
