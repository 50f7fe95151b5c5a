use Rattle.cat_model.specs.Query.{matches, supported}
use Rattle.cat_model.specs.RowSets.{both, either}
use Rattle.cat_model.specs.View.{item_in}
use Rattle.cat_query.specs.View.{clauses_of}
use Rattle.cat_query.proofs.RowTests.{Joined, obeyed_from, supported_from}
use Rattle.cat_query.proofs.matching.+rows.Given as goal

abbrev pub invariant-clauses_set-loop-clause : goal.invariant-clauses_set-loop-clause
invariant-clauses_set-loop-clause l = Joined both l.segment.rows (obeyed_from l.clauses l.clause-index) (λ r. matches (clauses_of l.clauses) (item_in r)) l.rows

abbrev pub invariant-supported_set-loop-clause : goal.invariant-supported_set-loop-clause
invariant-supported_set-loop-clause l = Joined either l.segment.rows (supported_from l.clauses l.clause-index) (λ r. supported (clauses_of l.clauses) (item_in r)) l.rows
