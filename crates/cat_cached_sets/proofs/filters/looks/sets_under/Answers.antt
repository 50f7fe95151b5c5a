use Rattle.std.proofs.Common.{◌≡◌, ap, option_map, refl, sym, ◌∙◌}
use Rattle.std.specs.Arc.{arc_value}
use Rattle.cat_model.specs.View.{segments_of}
use Rattle.cat_query.specs.View.{query_of}
use Rattle.cat_cached_sets.proofs.filters.Used.{none_found_if, none_used, sets_found, used_after}
use Rattle.cat_cached_sets.proofs.filters.looks.sets_under.Goals as goal

pub returns-then-len-eq0-clause-sets : goal.returns-then-len-eq0-clause-sets
returns-then-len-eq0-clause-sets c =
    none_found_if (query_of c.args.key.now.query) c.args.cache.now (sym c.len.ensures.value ∙ c.if-len-eq0.true) arc_value c.no_sets.result (λ v. v.items) c.args.leaves.now c.no_sets.ensures

pub returns-then-len-eq0-clause-used : goal.returns-then-len-eq0-clause-used
returns-then-len-eq0-clause-used c =
    none_used (query_of c.args.key.now.query) c.args.cache.now (sym c.len.ensures.value ∙ c.if-len-eq0.true) (segments_of c.args.leaves.now)

pub loop-leaf-preserved : goal.loop-leaf-preserved
loop-leaf-preserved c =
    let q = query_of c.args.key.now.query in
    let i = c.loop-leaf.leaf-index in
    let leaves = c.args.leaves.now in
    let leaf = c.leaf-item.result in
    let query : query_of c.loop-leaf.key.query ≡ q = ap query_of c.loop-leaf.invariant.query in
    record {
      query = c.set_for.ensures.query ∙ c.loop-leaf.invariant.query;
      used = used_after q c.args.cache.now c.loop-leaf.cache leaves i leaf leaf.segment.number (query_of c.loop-leaf.key.query) c.loop-leaf-test.true c.leaf-item.is
          refl query c.loop-leaf.invariant.used c.set_for.new.cache c.set_for.ensures.used;
      sets = sets_found (λ v. v.items) (option_map arc_value) q c.args.cache.now c.loop-leaf.cache leaves i leaf leaf.segment.number (query_of c.loop-leaf.key.query)
          c.loop-leaf-test.true c.leaf-item.is refl query c.loop-leaf.invariant.used c.loop-leaf.sets c.set_for.result c.with_last-sets.result
          c.with_last-sets.ensures c.set_for.ensures.set c.loop-leaf.invariant.sets;
    }
