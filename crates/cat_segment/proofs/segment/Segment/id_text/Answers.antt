use Rattle.std.proofs.Common.{sym, ap, ◌∙◌, arith}
use Rattle.cat_segment.specs.Body.{body_of}
use Rattle.cat_segment.proofs.Columns.{row_within}
use Rattle.cat_segment.proofs.Made.{row_here}
use Rattle.cat_segment.proofs.segment.Segment.id_text.Goals as goal

pub text-requires : goal.text-requires
text-requires c = omega (arith, row_within (body_of c.self.inside) c.args.row (rw (← c.self.view_is) at c.requires), c.self.invariant.ids)

pub returns : goal.returns
returns c =
    let body = body_of c.self.inside in
    rw (← c.self.view_is) (λ d. ap (λ r. r.id) (row_here body c.args.row d (row_within body c.args.row (rw (← c.self.view_is) at c.requires))) ∙ sym c.text.ensures)
