use Rattle.std.proofs.Common.{take, sum, map, sym, ap, ◌∙◌, arith}
use Rattle.std.proofs.lemmas.List.{take-map}
use Rattle.cat_segment.specs.Body.{body_of, rows_of}
use Rattle.cat_segment.proofs.Columns.{row_within, lengths_are}
use Rattle.cat_segment.proofs.segment.Segment.source_offset.Goals as goal

pub offset-requires : goal.offset-requires
offset-requires c = omega (arith, row_within (body_of c.self.inside) c.args.row (rw (← c.self.view_is) at c.requires), c.self.invariant.lengths)

pub returns : goal.returns
returns c =
    let body = body_of c.self.inside in
    let row = c.args.row in
    let known = ap (λ l. sum (take row l)) (sym (lengths_are body c.self.invariant)) ∙ ap sum (take-map (λ r. r.length) row (rows_of body)) ∙ ap (λ s. sum (map (λ r. r.length) (take row s.rows))) c.self.view_is in
    c.from.ensures ∙ c.offset.ensures ∙ known
