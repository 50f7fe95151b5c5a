use Rattle.std.proofs.Common.{◌≡◌, ◌++◌, ◌∷◌, [], sym, ◌∙◌, subst, append_assoc}
use Rattle.std.specs.Vec.Iter.{into_iter_items}
use Rattle.cat_ledger_laws.specs.model.Leaves.{AreLeaves}
use Rattle.cat_live_table.proofs.current.Currents.{AreLeaves-front}
use Rattle.cat_live_table.proofs.current.current.Current.of.Goals as goal

pub push-requires : goal.push-requires
push-requires c =
    let steps : into_iter_items c.loop-leaf.leaf-iterator ≡ c.in-Some.leaf ∷ into_iter_items c.next.new.self = c.in-Some.ensures.steps.0 in
    let whole : c.loop-leaf.current ++ (c.in-Some.leaf ∷ into_iter_items c.next.new.self) ≡ c.args.leaves.items = rw steps at c.loop-leaf.invariant.rest in
    AreLeaves-front (c.loop-leaf.current ++ c.in-Some.leaf ∷ []) (into_iter_items c.next.new.self)
    (subst AreLeaves (sym whole ∙ sym (append_assoc c.loop-leaf.current (c.in-Some.leaf ∷ []) (into_iter_items c.next.new.self))) c.requires)
