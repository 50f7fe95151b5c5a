use Rattle.std.proofs.Common.{List, [], ◌∷◌, ◌++◌, sym, ap₂, ◌∙◌, arith}
use Rattle.std.proofs.lemmas.List.{take_all, take_more}
use Rattle.cat_model.specs.View.{Leaf}
use Rattle.cat_merge.proofs.files.inputs.inputs_of.Goals as goal

pub loop-leaf-preserved : goal.loop-leaf-preserved
loop-leaf-preserved c =
    c.in_ok-push.ensures.items ∙ ap₂ (λ (l : List Leaf) (x : Leaf). l ++ x ∷ []) c.loop-leaf.invariant (c.in_ok-input_of.ensures ∙ c.leaf-item.is)
    ∙ sym (take_more c.args.leaves.now c.loop-leaf.leaf-index c.leaf-item.result c.loop-leaf-test.true)

pub returns : goal.returns
returns c = record { ok = c.loop-leaf.invariant ∙ take_all c.loop-leaf.leaf-index c.args.leaves.now (omega arith) }
