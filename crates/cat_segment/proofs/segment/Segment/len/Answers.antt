use Rattle.std.proofs.Common.{arith}
use Rattle.cat_segment.specs.Body.{body_of}
use Rattle.cat_segment.proofs.Columns.{length-rows_of}
use Rattle.cat_segment.proofs.segment.Segment.len.Goals as goal

pub returns-clause-same : goal.returns-clause-same
returns-clause-same c = rw (← c.self.view_is) (omega (arith, length-rows_of (body_of c.self.inside), c.len.ensures, c.self.inside.numbers.ok.0))
