use Rattle.std.proofs.Common.{◌≡◌, ◌∙◌, length, map, sym, ap, ap₂, arith}
use Rattle.std.proofs.lemmas.List.{length-map}
use Rattle.std.proofs.lemmas.Grind.{elements}
use Rattle.cat_model.specs.RowSets.{joined, both}
use Rattle.cat_model.specs.View.{Leaf, row_matches}
use Rattle.cat_query.specs.View.{query_of}
use Rattle.cat_views.proofs.Selected.{length-joined}
use Rattle.cat_live_table.proofs.current.Removed.{removed_is}
use Rattle.cat_live_table.proofs.current.removals.Removal.of.Goals as goal

pub without_rows-requires-clause-long : goal.without_rows-requires-clause-long
without_rows-requires-clause-long c =
    let test = row_matches (query_of c.args.query.now) in
    let leaf = c.args.leaf.now in
    let matched = c.into_rows-hits.ensures ∙ c.in_ok-matches.ensures.ok ∙ ap (λ s. map test s.rows) c.segment.ensures in
    let long : length (map test leaf.segment.rows) ≡ length leaf.live = length-map leaf.segment.rows test ∙ sym c.live.ensures.long in
    ap length (c.and_with.ensures ∙ ap₂ (joined both) matched (c.rows.ensures ∙ c.live.ensures.value)) ∙ length-joined both (map test leaf.segment.rows) leaf.live long

pub without_rows-requires-clause-within : goal.without_rows-requires-clause-within
without_rows-requires-clause-within c =
    let test = row_matches (query_of c.args.query.now) in
    let leaf = c.args.leaf.now in
    let matched = c.into_rows-hits.ensures ∙ c.in_ok-matches.ensures.ok ∙ ap (λ s. map test s.rows) c.segment.ensures in
    let long : length (map test leaf.segment.rows) ≡ length leaf.live = length-map leaf.segment.rows test ∙ sym c.live.ensures.long in
    ap length (c.and_with.ensures ∙ ap₂ (joined both) matched (c.rows.ensures ∙ c.live.ensures.value)) ∙ length-joined both (map test leaf.segment.rows) leaf.live long
    ∙ c.live.ensures.long

pub invariant_of-result : goal.invariant_of-result
invariant_of-result c =
    let test = row_matches (query_of c.args.query.now) in
    let leaf = c.args.leaf.now in
    let matched = c.into_rows-hits.ensures ∙ c.in_ok-matches.ensures.ok ∙ ap (λ s. map test s.rows) c.segment.ensures in
    let long : length (map test leaf.segment.rows) ≡ length leaf.live = length-map leaf.segment.rows test ∙ sym c.live.ensures.long in
    ap length (c.and_with.ensures ∙ ap₂ (joined both) matched (c.rows.ensures ∙ c.live.ensures.value)) ∙ length-joined both (map test leaf.segment.rows) leaf.live long
    ∙ c.live.ensures.long ∙ sym (ap (λ (l : Leaf). length l.segment.rows) c.in_ok-leaf.ensures.ok)

pub returns : goal.returns
returns c =
    let test = row_matches (query_of c.args.query.now) in
    let matched = c.into_rows-hits.ensures ∙ c.in_ok-matches.ensures.ok ∙ ap (λ s. map test s.rows) c.segment.ensures in
    let set = c.and_with.ensures ∙ ap₂ (joined both) matched (c.rows.ensures ∙ c.live.ensures.value) in
    record {
      ok = sym (removed_is (query_of c.args.query.now) c.args.leaf.now c.in_ok-leaf.leaf c.and_with.new.self c.live.ensures.long set c.in_ok-leaf.ensures.ok);
    }

pub and_with-requires : goal.and_with-requires
and_with-requires c = grind (arith, elements)
