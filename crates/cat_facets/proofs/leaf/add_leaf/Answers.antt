use Rattle.std.proofs.Common.{◌≡◌, ℕ, ◌+◌, ◌<◌, List, length, get_or, map, sym, ap, ◌∙◌, subst, arith}
use Rattle.std.proofs.lemmas.List.{length-map}
use Rattle.std.specs.Prelude.{IfOk, OnOk}
use Rattle.cat_model.specs.GlobalOrdinals.{IsOrdinalMap}
use Rattle.cat_model.specs.Ordinals.{dictionary_of, text_at}
use Rattle.cat_model.specs.Text.{Text}
use Rattle.cat_model.specs.View.{Leaf, Segment, selected}
use Rattle.cat_facets.specs.States.{IsKnown}
use Rattle.cat_facets.specs.Tallies.{label_count, labelled_count, labels_at, leaf_labels}
use Rattle.cat_facets.proofs.Columns.{empty_rows, none_labelled, none_with_label}
use Rattle.cat_facets.proofs.leaf.add_leaf.Goals as goal

-- the labels of the column are those of the leaf
column_is : (dimension : Text) (leaf : Leaf) (segment : Segment) (column : List (List Text)) → segment ≡ leaf.segment → column ≡ map (labels_at dimension) segment.rows → column ≡ leaf_labels dimension leaf
column_is dimension leaf segment column same is = is ∙ ap (λ s. map (labels_at dimension) s.rows) same

-- it has a row for each hit or other row
long_as : (dimension : Text) (leaf : Leaf) (column : List (List Text)) (n : ℕ) → column ≡ leaf_labels dimension leaf → n ≡ length leaf.segment.rows → n ≡ length column
long_as dimension leaf column n is long = long ∙ sym (ap length is ∙ length-map leaf.segment.rows (labels_at dimension))

pub returns-in_default-clause-labelled : goal.returns-in_default-clause-labelled
returns-in_default-clause-labelled c =
    let dimension = c.args.dimension.now in
    let rows = c.args.leaf.now.segment.rows in
    let none = subst (λ s. map (labels_at dimension) s.rows ≡ empty_rows s.rows) c.segment.ensures c.in_default.ensures in
    none_labelled c.args.hits.now rows (map (labels_at dimension) rows) none

pub returns-in_default-clause-counts : goal.returns-in_default-clause-counts
returns-in_default-clause-counts c = λ g lt.
    let dimension = c.args.dimension.now in
    let rows = c.args.leaf.now.segment.rows in
    let none = subst (λ s. map (labels_at dimension) s.rows ≡ empty_rows s.rows) c.segment.ensures c.in_default.ensures in
    let zero' = none_with_label (text_at c.args.labels.now g) c.args.hits.now rows (map (labels_at dimension) rows) none in
    omega (arith, zero')

pub add_but_others-requires-clause-rows : goal.add_but_others-requires-clause-rows
add_but_others-requires-clause-rows c =
    long_as c.args.dimension.now c.args.leaf.now c.in-Some.column.now (length c.args.hits.now)
    (column_is c.args.dimension.now c.args.leaf.now c.segment.result.now c.in-Some.column.now c.segment.ensures c.in-Some.ensures) c.requires.rows

pub add_but_others-requires-clause-known : goal.add_but_others-requires-clause-known
add_but_others-requires-clause-known c =
    subst (λ (rows : List (List Text)). IsKnown c.args.labels.now rows c.args.known.now)
    (sym (column_is c.args.dimension.now c.args.leaf.now c.segment.result.now c.in-Some.column.now c.segment.ensures c.in-Some.ensures)) c.requires.known

pub returns-then-are_most-clause-known : goal.returns-then-are_most-clause-known
returns-then-are_most-clause-known c =
    subst (λ (rows : List (List Text)). IsKnown c.args.labels.now rows c.add_but_others.new.known)
    (column_is c.args.dimension.now c.args.leaf.now c.segment.result.now c.in-Some.column.now c.segment.ensures c.in-Some.ensures) c.add_but_others.ensures.known

pub returns-then-are_most-clause-labelled : goal.returns-then-are_most-clause-labelled
returns-then-are_most-clause-labelled c =
    subst (λ (rows : List (List Text)). IfOk c.add_but_others.result (λ n. n ≡ labelled_count (selected c.args.hits.now rows)))
    (column_is c.args.dimension.now c.args.leaf.now c.segment.result.now c.in-Some.column.now c.segment.ensures c.in-Some.ensures) c.add_but_others.ensures.labelled

pub returns-then-are_most-clause-counts : goal.returns-then-are_most-clause-counts
returns-then-are_most-clause-counts c =
    subst (λ (rows : List (List Text)). OnOk c.add_but_others.result ((g : ℕ) → g < length c.args.labels.now
    → get_or c.add_but_others.new.totals g 0 ≡ get_or c.args.totals.now g 0 + label_count (text_at c.args.labels.now g) (selected c.args.hits.now rows)))
    (column_is c.args.dimension.now c.args.leaf.now c.segment.result.now c.in-Some.column.now c.segment.ensures c.in-Some.ensures) c.add_but_others.ensures.counts

pub add_rows-requires-clause-rows : goal.add_rows-requires-clause-rows
add_rows-requires-clause-rows c =
    long_as c.args.dimension.now c.args.leaf.now c.labels.result.now (length c.args.hits.now)
    (c.labels.ensures ∙ column_is c.args.dimension.now c.args.leaf.now c.segment.result.now c.in-Some.column.now c.segment.ensures c.in-Some.ensures) c.requires.rows

pub add_rows-requires-clause-map : goal.add_rows-requires-clause-map
add_rows-requires-clause-map c =
    let is = c.labels.ensures ∙ column_is c.args.dimension.now c.args.leaf.now c.segment.result.now c.in-Some.column.now c.segment.ensures c.in-Some.ensures in
    subst (λ (rows : List (List Text)). IsOrdinalMap c.args.labels.now (dictionary_of rows) c.deref.result.now) (sym is)
    (subst (λ (gs : List ℕ). IsOrdinalMap c.args.labels.now (dictionary_of (leaf_labels c.args.dimension.now c.args.leaf.now)) gs) (sym c.deref.ensures.value) c.requires.known.ordinals)

pub returns-clause-labelled : goal.returns-clause-labelled
returns-clause-labelled c =
    subst (λ (rows : List (List Text)). IfOk c.add_rows.result (λ n. n ≡ labelled_count (selected c.args.hits.now rows)))
    (c.labels.ensures ∙ column_is c.args.dimension.now c.args.leaf.now c.segment.result.now c.in-Some.column.now c.segment.ensures c.in-Some.ensures) c.add_rows.ensures.labelled

pub returns-clause-counts : goal.returns-clause-counts
returns-clause-counts c =
    subst (λ (rows : List (List Text)). OnOk c.add_rows.result ((g : ℕ) → g < length c.args.labels.now
    → get_or c.add_rows.new.totals g 0 ≡ get_or c.args.totals.now g 0 + label_count (text_at c.args.labels.now g) (selected c.args.hits.now rows)))
    (c.labels.ensures ∙ column_is c.args.dimension.now c.args.leaf.now c.segment.result.now c.in-Some.column.now c.segment.ensures c.in-Some.ensures) c.add_rows.ensures.counts
