use Rattle.cat_segment.specs.Body.{body_of, row_at, rows_of}
use Rattle.cat_segment.proofs.Columns.{numbers_are, length-rows_of}
use Rattle.cat_segment.proofs.Through.{numbers_rise, rows_parted}
use Rattle.cat_segment.proofs.segment.Segment.rows_through.Goals as goal

pub count_through-requires : goal.count_through-requires
count_through-requires c =
    let body = body_of c.self.inside in
    rw c.deref.ensures.value (numbers_rise (rows_of body) body.numbers (numbers_are body) (row_at body 0) c.self.invariant.rows.rising)

pub returns-clause-point : goal.returns-clause-point
returns-clause-point c =
    let body = body_of c.self.inside in
    let point = rw c.deref.ensures.value at c.count_through.ensures.point in
    let bound = rw c.deref.ensures.value at c.count_through.ensures.bound in
    rw (← c.self.view_is) (rows_parted (rows_of body) body.numbers (numbers_are body) c.args.number c.count_through.result bound point)

pub returns-clause-bound : goal.returns-clause-bound
returns-clause-bound c =
    let body = body_of c.self.inside in
    let bound = rw c.deref.ensures.value at c.count_through.ensures.bound in
    rw (← c.self.view_is) (rw (length-rows_of body) bound)

pub returns-clause-rising : goal.returns-clause-rising
returns-clause-rising c = rw (← c.self.view_is) c.self.invariant.rows.rising
