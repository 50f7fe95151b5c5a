use Rattle.std.proofs.Common.{◌≡◌, drop}
use Rattle.std.specs.List.{fold}
use Rattle.cat_query.specs.View.{clauses_of}
use Rattle.cat_query.specs.Fed.{fed_query}
use Rattle.cat_query.proofs.hashing.+feeding.Given as goal

abbrev pub invariant-feed_clauses-loop-clause : goal.invariant-feed_clauses-loop-clause
invariant-feed_clauses-loop-clause g l = fold g.H.Hasher.write l.state (fed_query (clauses_of (drop l.clause-index l.clauses))) ≡ fold g.H.Hasher.write l.initial.state (fed_query (clauses_of l.clauses))
