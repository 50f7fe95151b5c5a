use Rattle.std.proofs.Common.{map, ap, ◌∙◌}
use Rattle.cat_segment.proofs.Assembled.{columns_in_body}
use Rattle.cat_segment.specs.Laid.{laid_in}
use Rattle.cat_segment.specs.Body.{body_of}
use Rattle.cat_segment.proofs.segment.Segment.columns.Goals as goal

pub returns : goal.returns
returns c = rw (← c.self.view_is) (ap (map laid_in) c.deref.ensures.value ∙ columns_in_body (body_of c.self.inside) c.self.invariant)
