use Rattle.std.proofs.Common.{◌≡◌, All, length, map, take}
use Rattle.cat_model.specs.View.{Leaf}
use Rattle.cat_merge.proofs.files.inputs.lives_of.Given as goal

abbrev pub invariant-loop-leaf : goal.invariant-loop-leaf
invariant-loop-leaf l = record {
  lives : map (λ x. x.now) l.lives.items ≡ map (λ (leaf : Leaf). leaf.live) (take l.leaf-index l.leaves);
  long : All (λ (leaf : Leaf). length leaf.live ≡ length leaf.segment.rows) (take l.leaf-index l.leaves);
}
