use Rattle.std.proofs.lemmas.List.{take_all}
use Rattle.std.proofs.Common.{◌≡◌, length, ◌∙◌, ap, subst, All, map, take, arith}
use Rattle.std.proofs.lemmas.List.Elements.{All-more}
use Rattle.cat_model.specs.View.{Leaf}
use Rattle.cat_merge.proofs.files.Merged.{mapped_more}
use Rattle.cat_merge.proofs.files.inputs.lives_of.Goals as goal

pub loop-leaf-preserved : goal.loop-leaf-preserved
loop-leaf-preserved c = record {
  lives = mapped_more (λ x. x.now) (λ (leaf : Leaf). leaf.live) c.args.leaves.now c.loop-leaf.leaf-index c.leaf-item.result c.loop-leaf.lives.items c.push.new.self.items c.live.result
      c.loop-leaf-test.true c.loop-leaf.invariant.lives (c.live.ensures.value ∙ ap (λ (leaf : Leaf). leaf.live) c.leaf-item.is) c.in_ok-push.ensures.items;
  long = All-more (λ (leaf : Leaf). length leaf.live ≡ length leaf.segment.rows) c.args.leaves.now c.loop-leaf.leaf-index c.leaf-item.result c.loop-leaf-test.true c.loop-leaf.invariant.long
      (subst (λ (leaf : Leaf). length leaf.live ≡ length leaf.segment.rows) c.leaf-item.is c.live.ensures.long);
}

pub returns : goal.returns
returns c =
    let all : take c.loop-leaf.leaf-index c.args.leaves.now ≡ c.args.leaves.now = take_all c.loop-leaf.leaf-index c.args.leaves.now (omega arith) in
    record {
      ok = c.loop-leaf.invariant.lives ∙ ap (map (λ (leaf : Leaf). leaf.live)) all;
      long = subst (All (λ (leaf : Leaf). length leaf.live ≡ length leaf.segment.rows)) all c.loop-leaf.invariant.long;
    }
