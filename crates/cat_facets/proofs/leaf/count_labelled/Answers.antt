use Rattle.std.proofs.Common.{◌+◌, ◌<◌, List, Bool, ◌∷◌, [], length, get_or, take, not, sym, ap, ◌∙◌, arith}
use Rattle.std.proofs.lemmas.List.{length-take, take_all, take_more}
use Rattle.std.proofs.lemmas.List.Sums.{count_by-le-length}
use Rattle.cat_model.specs.Facets.{is_empty}
use Rattle.cat_model.specs.Ordinals.{dictionary_of}
use Rattle.cat_model.specs.Text.{Text}
use Rattle.cat_facets.specs.Tallies.{labelled_count}
use Rattle.cat_facets.proofs.Counted.{count_by-both, count_one}
use Rattle.cat_facets.proofs.Globals.{byte_is, is_row, one_le}
use Rattle.cat_facets.proofs.leaf.count_labelled.Goals as goal

pub overflow_add-labelled : goal.overflow_add-labelled
overflow_add-labelled c =
    let column = c.args.column.now in
    let old = c.loop-row.invariant in
    let bound = count_by-le-length (λ labels. not (is_empty labels)) (take c.loop-row.row column) in
    let long = length-take c.loop-row.row column in
    let more = one_le (not c.is_empty.result) in
    let byte = c.from-labelled.ensures ∙ byte_is (not c.is_empty.result) in
    let many = c.len-row-end.ensures.few in
    let is = c.len-row-end.ensures.value in
    omega (arith, old, bound, long, more, byte, many, is)

pub loop-row-preserved : goal.loop-row-preserved
loop-row-preserved c =
    let column = c.args.column.now in
    let row = c.loop-row.row in
    let p : List Text → Bool = λ labels. not (is_empty labels) in
    let within : row < length column = let n = c.len-row-end.ensures.value in omega (arith, n) in
    ap (λ n. n + c.from-labelled.result) c.loop-row.invariant
    ∙ ap (λ n. labelled_count (take row column) + n)
    (is_row (dictionary_of column) c.ordinals.result.now (get_or column row []) c.is_empty.result c.from-labelled.result c.ordinals.ensures.value c.is_empty.ensures c.from-labelled.ensures ∙ sym (count_one p (get_or column row [])))
    ∙ sym (ap labelled_count (take_more column row [] within) ∙ count_by-both p (take row column) (get_or column row [] ∷ []))

pub returns : goal.returns
returns c = let n = c.len-row-end.ensures.value in c.loop-row.invariant ∙ ap labelled_count (take_all c.loop-row.row c.args.column.now (omega (arith, n)))
