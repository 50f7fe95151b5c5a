use Rattle.std.proofs.Common.{◌≡◌, ℕ, ◌+◌, ◌<◌, Bool, List, [], ◌∷◌, ◌++◌, length, get_or, take, sym, ap, ◌∙◌}
use Rattle.std.proofs.lemmas.List.{map-append, take_all, take_more}
use Rattle.cat_model.specs.View.{Leaf}
use Rattle.cat_facets.specs.LiveTotals.{live_sets}
use Rattle.cat_facets.proofs.live.live_of.Goals as goal

-- the live rows of one leaf more
one_more : (leaves : List Leaf) (i : ℕ) (leaf : Leaf) (sets new : List (List Bool)) (set : List Bool) → i < length leaves → leaf ≡ get_or leaves i leaf → sets ≡ live_sets (take i leaves)
    → set ≡ leaf.live → new ≡ sets ++ set ∷ [] → new ≡ live_sets (take (i + 1) leaves)
one_more leaves i leaf sets new set lt at are is pushed =
    pushed ∙ ap (λ x. sets ++ x ∷ []) (is ∙ ap (λ (l : Leaf). l.live) at) ∙ ap (λ xs. xs ++ (get_or leaves i leaf).live ∷ []) are
    ∙ sym (ap live_sets (take_more leaves i leaf lt) ∙ map-append (λ (l : Leaf). l.live) (take i leaves) (get_or leaves i leaf ∷ []))

pub loop-leaf-preserved : goal.loop-leaf-preserved
loop-leaf-preserved c =
    one_more c.args.leaves.now c.loop-leaf.leaf-index c.leaf-item.result c.loop-leaf.sets.items c.push.new.self.items c.in_ok-copy.field-0 c.loop-leaf-test.true c.leaf-item.is
    c.loop-leaf.invariant (c.in_ok-copy.ensures.ok ∙ c.live.ensures.value) c.in_ok-push.ensures.items

pub returns : goal.returns
returns c = c.loop-leaf.invariant ∙ ap live_sets (take_all c.loop-leaf.leaf-index c.args.leaves.now c.loop-leaf-test.false)
