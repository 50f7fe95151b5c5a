use Rattle.std.proofs.Common.{◌≡◌, ◌<◌, ◌∙◌, IfSome, get_or, length, map, subst, sym, ap}
use Rattle.cat_model.specs.View.{row_matches}
use Rattle.cat_query.specs.View.{query_of}
use Rattle.cat_views.specs.Sets.{AreSets, set_at}
use Rattle.cat_search.proofs.Gathered.{looked_at}
use Rattle.cat_search.proofs.prepared.Prepared.hits.Goals as goal

pub hits_of-requires : goal.hits_of-requires
hits_of-requires c =
    let q = query_of c.self.inside.query in
    let leaves = c.self.inside.view.leaves in
    let leaf = c.index-leaves-index.result in
    let sets = c.sets_of.result.now in
    let all : AreSets q leaves sets = c.sets_of.ensures q leaves c.self.invariant in
    let here : leaf ≡ get_or leaves c.args.index leaf = c.index-leaves-index.is ∙ ap (λ ls. get_or ls c.args.index leaf) c.leaves.ensures.value in
    looked_at (λ s. s ≡ map (row_matches q) leaf.segment.rows) c.set_at.result (set_at sets c.args.index) c.set_at.ensures
    (subst (λ l. IfSome (set_at sets c.args.index) (λ s. s ≡ map (row_matches q) l.segment.rows)) (sym here) (all c.args.index leaf (subst (λ p. c.args.index < length p.view.leaves) (sym c.self.view_is) c.requires)))
