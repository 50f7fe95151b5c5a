use Rattle.std.proofs.Common.{List, All, sym, subst}
use Rattle.cat_model.specs.View.{Leaf, segments_of}
use Rattle.cat_commands.specs.cat_cached_sets.cat_query.declared.query.Query.{Query}
use Rattle.cat_commands.specs.cat_cached_sets.cat_query.View.{query_of}
use Rattle.cat_commands.specs.cat_cached_sets.cat_views.Sets.{AreSets}
use Rattle.cat_commands.specs.cat_cached_sets.filters.Known.{Knows}
use Rattle.cat_threads.proofs.service.lending.lend.Goals as goal

pub with-requires : goal.with-requires
with-requires c =
    subst (λ (q : Query). AreSets (query_of q) c.args.view.now.leaves c.in_ok-sets.sets.items) (sym c.sets_for.ensures.query)
    (subst (λ (ls : List Leaf). AreSets (query_of c.args.query) ls c.in_ok-sets.sets.items) c.leaves.ensures.value
    (c.in_ok-sets.ensures.lent (subst (λ (ls : List Leaf). All (Knows c.args.filters.now) (segments_of ls)) (sym c.leaves.ensures.value) c.requires)))
