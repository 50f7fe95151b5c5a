use Rattle.std.proofs.Common.{[], map, ap, sym, ◌∙◌, arith}
use Rattle.std.proofs.lemmas.List.{get_or-map, length-map}
use Rattle.std.proofs.lemmas.Grind.{elements}
use Rattle.cat_model.specs.Layout.{Laid, spelled_column}
use Rattle.cat_segment.proofs.Spelled.{spelled_next}
use Rattle.cat_segment.specs.Laid.{laid_in}
use Rattle.cat_segment.proofs.encoding.put_columns.Goals as goal

pub loop-column-preserved : goal.loop-column-preserved
loop-column-preserved c =
    let columns = c.args.columns.now in
    let i = c.loop-column.column-index in
    let column = c.column-item.result in
    spelled_next spelled_column (map laid_in columns) i (laid_in column) (Laid.numbers []) c.args.out.now.items c.loop-column.out.items _
    (omega (arith, c.loop-column-test.true, length-map columns laid_in))
    (ap laid_in c.column-item.is ∙ sym (get_or-map laid_in columns i column (Laid.numbers []) c.loop-column-test.true))
    c.in_ok-put_column.ensures.ok c.loop-column.invariant

pub returns : goal.returns
returns c = grind (arith, elements)
