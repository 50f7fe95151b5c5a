use Rattle.std.proofs.Common.{◌≡◌, ◌+◌, ◌*◌, ◌-◌}
use Rattle.std.specs.Prelude.{IfOk}
use Rattle.std.specs.Str.{IsUtf8}
use Rattle.cat_model.specs.Query.{Query}
use Rattle.cat_model.specs.Reader.{clauses_at, content_at}
use Rattle.cat_query.specs.View.{clauses_of}
use Rattle.cat_query.proofs.Series.{with_front}
use Rattle.cat_query.proofs.reading.+parser.Given as goal

abbrev pub decreases-primary : goal.decreases-primary
decreases-primary l = 3 * l.levels + 1

abbrev pub decreases-clause : goal.decreases-clause
decreases-clause l = 3 * l.levels + 2

abbrev pub decreases-content : goal.decreases-content
decreases-content l = 3 * l.levels

abbrev pub invariant-content-loop-turn : goal.invariant-content-loop-turn
invariant-content-loop-turn l = record {
  text : IsUtf8 l.rest;
  so : (front : Query) × IfOk l.clauses (λ v. clauses_of v.items ≡ front)
      × (with_front front (clauses_at l.fields (content_at l.fields (l.levels - 1)) (l.left - l._turn) l.still l.rest) ≡ content_at l.fields l.levels l.left l.text);
}
