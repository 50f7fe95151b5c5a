use Rattle.std.proofs.Common.{◌<◌, length, sym, ap, ◌∙◌, arith}
use Rattle.std.proofs.lemmas.List.{get_or_read}
use Rattle.cat_segment.specs.Body.{body_of}
use Rattle.cat_segment.proofs.Columns.{length-rows_of}
use Rattle.cat_segment.proofs.Made.{row_here}
use Rattle.cat_segment.proofs.segment.Segment.write_number.Goals as goal

pub index-requires : goal.index-requires
index-requires c =
    let body = body_of c.self.inside in
    omega (arith, c.requires, ap (λ s. length s.rows) c.self.view_is, length-rows_of body, c.self.invariant.ids, c.self.invariant.lengths, c.self.inside.numbers.ok.0, c.self.inside.numbers.ok.0)

pub returns : goal.returns
returns c =
    let body = body_of c.self.inside in
    let within : c.args.row < length body.numbers = omega (arith, c.requires, ap (λ s. length s.rows) c.self.view_is, length-rows_of body) in
    let here = get_or_read body.numbers c.args.row c.index.result.now (omega (arith, c.self.invariant.ids, c.self.invariant.lengths)) c.index.ensures 0 in
    rw (← c.self.view_is) (λ d. ap (λ r. r.number) (row_here body c.args.row d within) ∙ sym here)
