use Rattle.std.proofs.Common.{◌≡◌, ◌<◌, [], length, map, get_or, sym, ◌∙◌, arith}
use Rattle.std.proofs.lemmas.List.{get_or-map, length-map}
use Rattle.std.proofs.lemmas.Grind.{elements}
use Rattle.cat_model.specs.Layout.{Head, head_of, spelled_head}
use Rattle.cat_model.specs.View.{Row}
use Rattle.cat_segment.proofs.Spelled.{spelled_next}
use Rattle.cat_segment.proofs.encoding.put_heads.Goals as goal

pub loop-row-preserved : goal.loop-row-preserved
loop-row-preserved c =
    let rows = c.args.segment.now.rows in
    let i = c.loop-row.row in
    let none : Head = record { number = 0; id = []; length = 0 } in
    let d : Row = record { number = 0; id = []; fields = []; length = 0 } in
    let within : i < length rows = omega (arith, c.loop-row-test.true, c.len-row-end.ensures.same) in
    let number = c.write_number.ensures d in
    let id = c.id.ensures d in
    let long = c.source_length.ensures d in
    let head : record { number = c.write_number.result; id = c.id.result.now; length = c.source_length.result } ≡ head_of (get_or rows i d) = λ j. record { number = sym number j; id = sym id j; length = sym long j } in
    spelled_next spelled_head (map head_of rows) i _ none c.args.out.now.items c.loop-row.out.items _
    (omega (arith, within, length-map rows head_of))
    (head ∙ sym (get_or-map head_of rows i d none within))
    c.in_ok-put_head.ensures c.loop-row.invariant

pub returns : goal.returns
returns c = grind (arith, elements)
