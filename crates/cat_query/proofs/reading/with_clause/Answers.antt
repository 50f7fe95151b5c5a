use Rattle.cat_query.proofs.Series.{pushed_is}
use Rattle.cat_query.proofs.reading.with_clause.Goals as goal

pub returns : goal.returns
returns c = λ q p front last.
    let before = rw c.in_ok-clauses.was at front in
    let one = rw c.in_ok-primary.was at last in
    pushed_is c.in_ok-clauses.clauses.items c.push.new.self.items _ q p c.in_ok-push.ensures.items before one
