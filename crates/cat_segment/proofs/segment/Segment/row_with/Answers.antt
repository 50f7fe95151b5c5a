use Rattle.std.proofs.Common.{◌≡◌, length, sym, ◌∙◌}
use Rattle.cat_segment.specs.Body.{body_of, rows_of}
use Rattle.cat_segment.proofs.Columns.{ids_are, length-rows_of, row_named}
use Rattle.cat_segment.proofs.segment.Segment.row_with.Goals as goal

pub returns-clause-bound : goal.returns-clause-bound
returns-clause-bound c =
    let body = body_of c.self.inside in
    let long : length (body_of c.self.inside).ids ≡ length (rows_of body) = c.self.invariant.ids ∙ sym (length-rows_of body) in
    rw (← c.self.view_is, ← long) c.row_of.ensures.bound

pub returns-clause-lookup : goal.returns-clause-lookup
returns-clause-lookup c =
    let body = body_of c.self.inside in
    let long : length (body_of c.self.inside).ids ≡ length (rows_of body) = c.self.invariant.ids ∙ sym (length-rows_of body) in
    rw (← c.self.view_is) (row_named (rows_of body) c.args.id.now c.row_of.result (rw (ids_are body c.self.invariant) c.row_of.ensures.lookup) (rw (← long) c.row_of.ensures.bound))
