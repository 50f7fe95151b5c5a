use Rattle.std.proofs.Common.{◌≡◌, ℕ, ◌+◌, ◌<◌, ◌++◌, ◌∷◌, [], length, get_or, map, not, sym, ap, ◌∙◌, arith, append_assoc, append-nil}
use Rattle.std.proofs.lemmas.List.{length-map}
use Rattle.std.proofs.lemmas.List.Elements.{All-get_or}
use Rattle.std.proofs.lemmas.List.Sums.{count_by-le-length}
use Rattle.std.proofs.lemmas.Grind.{elements}
use Rattle.cat_base.specs.Texts.{IsTextSet}
use Rattle.cat_model.specs.Facets.{is_empty}
use Rattle.cat_model.specs.Ordinals.{dictionary_of, text_at}
use Rattle.cat_model.specs.RowSets.{indices}
use Rattle.cat_search.proofs.views_laws.Selected.{at_indices}
use Rattle.cat_facets.specs.Tallies.{has_label, label_count, labelled_count}
use Rattle.cat_facets.proofs.Counted.{count_push, fewer, row_within}
use Rattle.cat_facets.proofs.Globals.{byte_is, is_row, one_le, row_occurs}
use Rattle.cat_facets.proofs.counting.add_rows.Goals as goal

pub ordinals-ordinals-requires : goal.ordinals-ordinals-requires
ordinals-ordinals-requires c =
    let rest : c.loop-row.yielded ++ c.in-Some.row ∷ c.next.new.self ≡ indices c.args.rows.now = rw c.in-Some.ensures.steps at c.loop-row.invariant.rows in
    omega (arith, row_within c.args.rows.now c.loop-row.yielded c.next.new.self c.in-Some.row rest, c.requires.rows)

pub overflow_add-labelled : goal.overflow_add-labelled
overflow_add-labelled c =
    let rest : c.loop-row.yielded ++ c.in-Some.row ∷ c.next.new.self ≡ indices c.args.rows.now = rw c.in-Some.ensures.steps at c.loop-row.invariant.rows in
    let f = λ (r : ℕ). get_or c.args.column.now r [] in
    let few = fewer c.args.rows.now c.loop-row.yielded c.next.new.self c.in-Some.row rest in
    let bound = count_by-le-length (λ labels. not (is_empty labels)) (map f c.loop-row.yielded) in
    let long = length-map c.loop-row.yielded f in
    let old = c.loop-row.invariant.labelled in
    let more = one_le (not c.is_empty.result) in
    let byte = c.from-labelled.ensures ∙ byte_is (not c.is_empty.result) in
    let rows = c.requires.rows in
    let many = c.len.ensures.few in
    omega (arith, few, bound, long, old, more, byte, rows, many)

pub loop-row-preserved : goal.loop-row-preserved
loop-row-preserved c =
    let rest : c.loop-row.yielded ++ c.in-Some.row ∷ c.next.new.self ≡ indices c.args.rows.now = rw c.in-Some.ensures.steps at c.loop-row.invariant.rows in
    let row = c.in-Some.row in
    let column = c.args.column.now in
    let all = c.args.labels.now in
    let globals = c.args.globals.now in
    let texts = dictionary_of column in
    let f = λ (r : ℕ). get_or column r [] in
    let os = c.ordinals-ordinals.result.now in
    let within : row < length column = omega (arith, row_within c.args.rows.now c.loop-row.yielded c.next.new.self row rest, c.requires.rows) in
    let set = All-get_or IsTextSet column row [] within c.len.ensures.sets in
    record {
      can = tt;
      finite = tt;
      rows = append_assoc c.loop-row.yielded (row ∷ []) c.next.new.self ∙ rest;
      counts = λ g lt.
          let old = c.loop-row.invariant.counts g lt in
          let step = c.in_ok-add_row.ensures.ok g (omega arith) in
          let here = row_occurs all texts globals os (f row) g c.as_slice.ensures.sorted c.requires.map.texts c.requires.map.within c.ordinals-ordinals.ensures.value c.ordinals-ordinals.ensures.bound set lt in
          let push = count_push (has_label (text_at all g)) f c.loop-row.yielded row in
          omega (arith, old, step, here, push);
      labelled =
          ap (λ n. n + c.from-labelled.result) c.loop-row.invariant.labelled
          ∙ ap (λ n. labelled_count (map f c.loop-row.yielded) + n) (is_row texts os (f row) c.is_empty.result c.from-labelled.result c.ordinals-ordinals.ensures.value c.is_empty.ensures c.from-labelled.ensures)
          ∙ sym (count_push (λ labels. not (is_empty labels)) f c.loop-row.yielded row);
    }

pub returns-clause-labelled : goal.returns-clause-labelled
returns-clause-labelled c =
    let ended : c.loop-row.row-iterator ≡ [] = c.in-None.ensures.steps.0 in
    let all : c.loop-row.yielded ≡ indices c.args.rows.now = sym (append-nil c.loop-row.yielded) ∙ rw ended at c.loop-row.invariant.rows in
    c.loop-row.invariant.labelled ∙ ap (λ ys. labelled_count (map (λ r. get_or c.args.column.now r []) ys)) all
    ∙ ap labelled_count (at_indices c.args.rows.now c.args.column.now [] c.requires.rows)

pub returns-clause-counts : goal.returns-clause-counts
returns-clause-counts c = λ g lt.
    let ended : c.loop-row.row-iterator ≡ [] = c.in-None.ensures.steps.0 in
    let all : c.loop-row.yielded ≡ indices c.args.rows.now = sym (append-nil c.loop-row.yielded) ∙ rw ended at c.loop-row.invariant.rows in
    let t = text_at c.args.labels.now g in
    c.loop-row.invariant.counts g lt
    ∙ ap (λ n. get_or c.args.totals.now g 0 + n) (ap (λ ys. label_count t (map (λ r. get_or c.args.column.now r []) ys)) all
    ∙ ap (label_count t) (at_indices c.args.rows.now c.args.column.now [] c.requires.rows))

pub add_row-requires-clause-within : goal.add_row-requires-clause-within
add_row-requires-clause-within c = grind (arith, elements)
