use Rattle.cat_query.specs.View.{clauses_of}
use Rattle.cat_query.specs.Same.{same_query}
use Rattle.cat_query.proofs.SameLists.{compared}
use Rattle.cat_query.proofs.equality.+same.Goals as goal

pub same_clauses-returns : goal.same_clauses-returns
same_clauses-returns t c = compared c.args.a.now c.args.b.now c.loop-i.i (same_query (clauses_of c.args.a.now) (clauses_of c.args.b.now)) c.loop-i-test.false c.loop-i.auto.i-end c.loop-i.invariant.within c.loop-i.invariant.same
