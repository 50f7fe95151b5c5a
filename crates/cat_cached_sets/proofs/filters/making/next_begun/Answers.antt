use Rattle.std.proofs.Common.{◌∙◌}
use Rattle.cat_query.specs.View.{query_of}
use Rattle.cat_model.specs.View.{segments_of}
use Rattle.cat_cached_sets.proofs.filters.Begun.{begun_here, none_here}
use Rattle.cat_cached_sets.proofs.filters.making.next_begun.Goals as goal

pub returns-in-Some : goal.returns-in-Some
returns-in-Some c =
    let p = query_of c.in_ok-copy.field-0 in
    let segment = c.in_ok-segment.ensures.ok in
    let query = c.in-Some.ensures.query in
    begun_here c.args.cache.now (segments_of c.args.leaves.now) c.args.noted.now c.loop-query.query-index c.query-item.result p
    c.loop-query-test.true c.query-item.is c.in_ok-copy.ensures.ok c.loop-query.invariant c.in-Some.leaf.now.segment c.begin.result c.in-Some.ensures.first
    (c.begin.ensures ∙ (λ j. record { segment = segment j; query = query j; passed = 0 }))

pub loop-query-preserved : goal.loop-query-preserved
loop-query-preserved c =
    none_here c.args.cache.now (segments_of c.args.leaves.now) c.args.noted.now c.loop-query.query-index c.query-item.result (query_of c.in_ok-copy.field-0)
    c.loop-query-test.true c.query-item.is c.in_ok-copy.ensures.ok c.loop-query.invariant c.in_default.ensures.first
