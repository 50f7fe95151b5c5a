use Rattle.cat_segment.specs.Body.{body_of, rows_of}
use Rattle.cat_segment.specs.Filter.{id_hash}
use Rattle.cat_segment.proofs.Columns.{ids_are, none_hashed}
use Rattle.cat_segment.proofs.segment.Segment.may_have.Goals as goal

pub returns : goal.returns
returns c =
    let body = body_of c.self.inside in
    rw (← c.self.view_is) (λ no. none_hashed (rows_of body) id_hash c.args.hash (rw (ids_are body c.self.invariant) (c.may_have.ensures no)))
