use Rattle.std.proofs.Common.{◌≡◌, ◌+◌, ◌<◌, ◌++◌, ℕ, List, length, get_or, take, not, sym, ap, ◌∙◌, subst}
use Rattle.std.specs.Prelude.{Result, Ok, Err, IfOk, OnOk}
use Rattle.std.specs.List.{flat_map}
use Rattle.cat_model.specs.Facets.{is_empty}
use Rattle.cat_model.specs.Ordinals.{text_at}
use Rattle.cat_model.specs.Text.{Text}
use Rattle.cat_model.specs.View.{selected}
use Rattle.cat_search.specs.cat_query.View.{query_of}
use Rattle.cat_search.specs.Rows.{leaf_hits}
use Rattle.cat_facets.specs.Tallies.{hit_labels, label_count, labelled_count, leaf_labels, AreCounts}
use Rattle.cat_facets.proofs.Counted.{count_by-both}
use Rattle.cat_facets.proofs.Leaves.{counts_more, hits_more}
use Rattle.cat_facets.proofs.totals.add_hits.Goals as goal

-- how many have a label so far, and with the rows of one leaf more
labelled_more : {E : Type 0} (r : Result ℕ E) (before piece after : List (List Text)) → before ++ piece ≡ after → IfOk r (λ n. n ≡ labelled_count piece)
    → IfOk r (λ n. labelled_count after ≡ labelled_count before + n)
labelled_more (Err e) before piece after joined is = tt
labelled_more (Ok n) before piece after joined is =
    sym (ap labelled_count joined) ∙ count_by-both (λ ls. not (is_empty ls)) before piece ∙ ap (λ k. labelled_count before + k) (sym is)

-- the same of the counts
counted_more : {E : Type 0} (r : Result ℕ E) (labels : List Text) (before piece after : List (List Text)) (old new : List ℕ) → before ++ piece ≡ after → AreCounts labels before old
    → length new ≡ length old → OnOk r ((g : ℕ) → g < length labels → get_or new g 0 ≡ get_or old g 0 + label_count (text_at labels g) piece) → OnOk r (AreCounts labels after new)
counted_more (Err e) labels before piece after old new joined are kept each = tt
counted_more (Ok n) labels before piece after old new joined are kept each = subst (λ rows. AreCounts labels rows new) joined (counts_more labels before piece old new are kept each)

pub hits-requires : goal.hits-requires
hits-requires c = c.requires.index

pub add_leaf-requires-clause-rows : goal.add_leaf-requires-clause-rows
add_leaf-requires-clause-rows c = subst (λ l. length c.in_ok-hits.hits ≡ length l.segment.rows) (sym c.requires.leaf) (c.in_ok-hits.ensures.long c.args.leaf.now)

pub add_leaf-requires-clause-long : goal.add_leaf-requires-clause-long
add_leaf-requires-clause-long c = c.requires.counts.long

pub add_leaf-requires-clause-known : goal.add_leaf-requires-clause-known
add_leaf-requires-clause-known c = c.requires.known

pub returns-clause-known : goal.returns-clause-known
returns-clause-known c = c.add_leaf.ensures.known

pub returns-clause-labelled : goal.returns-clause-labelled
returns-clause-labelled c =
    let q = query_of c.args.prepared.now.query in
    let dimension = c.args.dimension.now in
    let leaves = c.args.prepared.now.view.leaves in
    let leaf = c.args.leaf.now in
    let hits = c.in_ok-hits.hits in
    let f = hit_labels q dimension in
    labelled_more c.add_leaf.result (flat_map f (take c.args.index leaves)) (selected hits (leaf_labels dimension leaf)) (flat_map f (take (c.args.index + 1) leaves))
    (hits_more q dimension leaves c.args.index leaf hits c.requires.index c.requires.leaf (subst (λ l. selected hits l.segment.rows ≡ leaf_hits l q) (sym c.requires.leaf) (c.in_ok-hits.ensures.ok leaf)))
    c.add_leaf.ensures.labelled

pub returns-clause-counts : goal.returns-clause-counts
returns-clause-counts c =
    let q = query_of c.args.prepared.now.query in
    let dimension = c.args.dimension.now in
    let leaves = c.args.prepared.now.view.leaves in
    let leaf = c.args.leaf.now in
    let hits = c.in_ok-hits.hits in
    let f = hit_labels q dimension in
    counted_more c.add_leaf.result c.args.labels.now (flat_map f (take c.args.index leaves)) (selected hits (leaf_labels dimension leaf)) (flat_map f (take (c.args.index + 1) leaves))
    c.args.totals.now c.add_leaf.new.totals
    (hits_more q dimension leaves c.args.index leaf hits c.requires.index c.requires.leaf (subst (λ l. selected hits l.segment.rows ≡ leaf_hits l q) (sym c.requires.leaf) (c.in_ok-hits.ensures.ok leaf)))
    c.requires.counts c.add_leaf.auto.totals c.add_leaf.ensures.counts
