use Rattle.std.proofs.Common.{◌≡◌, map, List, ap, ◌∙◌}
use Rattle.std.specs.HashMap.{get_by_text}
use Rattle.std.specs.List.{flat_map}
use Rattle.cat_model.specs.View.{Leaf}
use Rattle.cat_model.specs.Write.{Write}
use Rattle.cat_ledger_laws.specs.model.Leaves.{leaves_after}
use Rattle.cat_query.specs.View.{query_of}
use Rattle.cat_live_table.specs.current.Places.{forgotten}
use Rattle.cat_live_table.specs.current.Removals.{Removed, removed_from, lost}
use Rattle.cat_live_table.proofs.current.Removed.{leaves_removed, removed}
use Rattle.cat_live_table.proofs.current.current.Current.delete_where.Goals as goal

pub invariant_of-self : goal.invariant_of-self
invariant_of-self c =
    let q = query_of c.args.query.now in
    let leaves : List Leaf = c.self.inside.leaves.items in
    let all : c.in_ok-removals.removals.items ≡ map (removed_from q) c.self.inside.leaves.items = c.in_ok-removals.ensures.ok ∙ ap (map (removed_from q)) c.deref.ensures.value in
    let left : c.in_ok-leaves.leaves.items ≡ leaves_after (Write.delete_where q) c.self.inside.leaves.items =
    c.in_ok-leaves.ensures.ok ∙ ap (map (λ (r : Removed). r.leaf)) (c.deref-2.ensures.value ∙ all) ∙ leaves_removed q leaves in
    rw left (removed q _ _ _ _ leaves c.self.invariant
    (λ id. c.forget_all.ensures id ∙ ap (λ (rs : List Removed). forgotten (flat_map lost rs) id (get_by_text c.self.inside.places id)) (c.deref-3.ensures.value ∙ all)))

pub returns-clause-ok : goal.returns-clause-ok
returns-clause-ok c =
    let q = query_of c.args.query.now in
    let leaves : List Leaf = c.self.inside.leaves.items in
    let all : c.in_ok-removals.removals.items ≡ map (removed_from q) c.self.inside.leaves.items = c.in_ok-removals.ensures.ok ∙ ap (map (removed_from q)) c.deref.ensures.value in
    c.in_ok-leaves.ensures.ok ∙ ap (map (λ (r : Removed). r.leaf)) (c.deref-2.ensures.value ∙ all) ∙ leaves_removed q leaves
    ∙ ap (leaves_after (Write.delete_where q)) c.self.view_is
