use Rattle.std.proofs.Common.{◌≡◌, ℕ, List, Bool, true, not, length, sym, ap, ◌∙◌, subst, arith}
use Rattle.std.specs.Prelude.{replicate, Option, IfSome}
use Rattle.std.proofs.lemmas.Grind.{elements}
use Rattle.cat_model.specs.Facets.{is_empty}
use Rattle.cat_model.specs.GlobalOrdinals.{IsOrdinalMap}
use Rattle.cat_model.specs.Ordinals.{dictionary_of, text_at}
use Rattle.cat_model.specs.RowSets.{first_only, joined}
use Rattle.cat_model.specs.Text.{Text}
use Rattle.cat_model.specs.View.{selected}
use Rattle.cat_facets.specs.Tallies.{has_label, label_count, labelled_count}
use Rattle.cat_facets.proofs.Counted.{count-others, length-others, others}
use Rattle.cat_facets.proofs.leaf.add_but_others.Goals as goal

-- the set of the rows that aren't hits
left : (hits set old : List Bool) (n : ℕ) → set ≡ joined first_only old hits → old ≡ replicate n true → n ≡ length hits → set ≡ others hits
left hits set old n is all long = is ∙ ap (λ s. joined first_only s hits) (all ∙ ap (λ k. replicate k true) long)

-- counts over it
counted : (count : List (List Text) → ℕ) (hits set : List Bool) (rows column : List (List Text)) → set ≡ others hits → rows ≡ column → count (selected set rows) ≡ count (selected (others hits) column)
counted count hits set rows column is same = ap (λ s. count (selected s rows)) is ∙ ap (λ x. count (selected (others hits) x)) same

-- the global ordinals of the column, however they are handed on
ordinal_map : (labels : List Text) (rows column : List (List Text)) (globals own : List ℕ) → rows ≡ column → globals ≡ own
    → IsOrdinalMap labels (dictionary_of column) own → IsOrdinalMap labels (dictionary_of rows) globals
ordinal_map labels rows column globals own same is map =
    subst (λ (x : List (List Text)). IsOrdinalMap labels (dictionary_of x) globals) (sym same) (subst (λ (gs : List ℕ). IsOrdinalMap labels (dictionary_of column) gs) (sym is) map)

pub add_all-requires-clause-map : goal.add_all-requires-clause-map
add_all-requires-clause-map c =
    ordinal_map c.args.labels.now c.terms.result.now c.args.column.now c.deref.result.now c.args.known.now.globals.items c.terms.ensures c.deref.ensures.value c.requires.known.ordinals

pub take_rows-unmatched-requires-clause-long : goal.take_rows-unmatched-requires-clause-long
take_rows-unmatched-requires-clause-long c = c.add_all.auto.totals ∙ c.requires.long

pub take_rows-unmatched-requires-clause-map : goal.take_rows-unmatched-requires-clause-map
take_rows-unmatched-requires-clause-map c =
    ordinal_map c.args.labels.now c.labels.result.now c.args.column.now c.deref-2.result.now c.args.known.now.globals.items c.labels.ensures c.deref-2.ensures.value c.requires.known.ordinals

pub labelled_in-requires : goal.labelled_in-requires
labelled_in-requires c = subst (λ (x : List (List Text)). IfSome c.args.known.now.labelled (λ n. n ≡ labelled_count x)) (sym c.labels-2.ensures) c.requires.known.labelled

pub returns-clause-known : goal.returns-clause-known
returns-clause-known c = record {
  ordinals = c.requires.known.ordinals;
  labelled =
      subst (λ (o : Option ℕ). IfSome o (λ n. n ≡ labelled_count c.args.column.now)) (sym c.labelled_in.ensures.known)
      (c.labelled_in.ensures.value ∙ ap labelled_count c.labels-2.ensures);
}

pub take_rows-unmatched-requires-clause-rows : goal.take_rows-unmatched-requires-clause-rows
take_rows-unmatched-requires-clause-rows c =
    ap length (left c.args.hits.now c.and_not.new.self c.in_ok-others.others c.len.result c.and_not.ensures c.in_ok-others.ensures.ok c.len.ensures.value)
    ∙ length-others c.args.hits.now ∙ c.requires.rows ∙ sym (ap length c.labels.ensures)

pub take_rows-unmatched-requires-clause-counted : goal.take_rows-unmatched-requires-clause-counted
take_rows-unmatched-requires-clause-counted c = λ g lt.
    let t = text_at c.args.labels.now g in
    let hits = c.args.hits.now in
    let column = c.args.column.now in
    let is = left hits c.and_not.new.self c.in_ok-others.others c.len.result c.and_not.ensures c.in_ok-others.ensures.ok c.len.ensures.value in
    let some = counted (label_count t) hits c.and_not.new.self c.labels.result.now column is c.labels.ensures in
    let all = ap (label_count t) c.terms.ensures in
    let mid = c.in_ok-add_all.ensures.counts g lt in
    let parts = count-others (has_label t) hits column c.requires.rows in
    omega (arith, some, all, mid, parts)

pub overflow_sub-result : goal.overflow_sub-result
overflow_sub-result c =
    let hits = c.args.hits.now in
    let column = c.args.column.now in
    let is = left hits c.and_not.new.self c.in_ok-others.others c.len.result c.and_not.ensures c.in_ok-others.ensures.ok c.len.ensures.value in
    let some = c.take_rows-unmatched.ensures.labelled ∙ counted labelled_count hits c.and_not.new.self c.labels.result.now column is c.labels.ensures in
    let parts = count-others (λ (ls : List Text). not (is_empty ls)) hits column c.requires.rows in
    let known = c.labelled_in.ensures.value ∙ ap labelled_count c.labels-2.ensures in
    omega (arith, some, parts, known)

pub returns-clause-labelled : goal.returns-clause-labelled
returns-clause-labelled c =
    let hits = c.args.hits.now in
    let column = c.args.column.now in
    let is = left hits c.and_not.new.self c.in_ok-others.others c.len.result c.and_not.ensures c.in_ok-others.ensures.ok c.len.ensures.value in
    let some = c.take_rows-unmatched.ensures.labelled ∙ counted labelled_count hits c.and_not.new.self c.labels.result.now column is c.labels.ensures in
    let parts = count-others (λ (ls : List Text). not (is_empty ls)) hits column c.requires.rows in
    let known = c.labelled_in.ensures.value ∙ ap labelled_count c.labels-2.ensures in
    omega (arith, some, parts, known)

pub returns-clause-counts : goal.returns-clause-counts
returns-clause-counts c = λ g lt.
    let t = text_at c.args.labels.now g in
    let hits = c.args.hits.now in
    let column = c.args.column.now in
    let is = left hits c.and_not.new.self c.in_ok-others.others c.len.result c.and_not.ensures c.in_ok-others.ensures.ok c.len.ensures.value in
    let some = counted (label_count t) hits c.and_not.new.self c.labels.result.now column is c.labels.ensures in
    let all = ap (label_count t) c.terms.ensures in
    let mid = c.in_ok-add_all.ensures.counts g lt in
    let parts = count-others (has_label t) hits column c.requires.rows in
    let taken = c.take_rows-unmatched.ensures.counts g lt in
    omega (arith, some, all, mid, parts, taken)

pub and_not-requires : goal.and_not-requires
and_not-requires c = grind (arith, elements)
