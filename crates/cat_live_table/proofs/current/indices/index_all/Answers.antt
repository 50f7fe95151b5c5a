use Rattle.std.proofs.Common.{◌≡◌, ℕ, ◌+◌, None, Some, cond, eqb, nat_eq, hash_map_len, ap, ◌∙◌, arith}
use Rattle.std.specs.HashMap.{get}
use Rattle.cat_model.specs.View.{Leaf}
use Rattle.cat_live_table.proofs.current.Indexed.{index-more, not-yet}
use Rattle.cat_live_table.proofs.current.indices.index_all.Goals as goal

pub loop-index-preserved : goal.loop-index-preserved
loop-index-preserved c =
    let leaf : Leaf = c.index-leaves-index.result in
    let i : ℕ = c.loop-index.index in
    let updates = rw c.unwrap-before.ensures at c.insert-indexed.ensures.updates in
    let old = rw c.unwrap-before.ensures at c.insert-indexed.ensures.old in
    let grown = rw c.unwrap-before.ensures at c.insert-indexed.ensures.len in
    let number : c.number.result ≡ c.index-leaves-index.result.segment.number = c.number.ensures ∙ ap (λ s. s.number) c.segment.ensures in
    let none : c.unwrap-before.result ≡ None =
    old ∙ ap (get nat_eq c.loop-index.indices) number ∙ c.loop-index.invariant.indexed leaf.segment.number
    ∙ not-yet c.args.leaves.now i leaf c.loop-index-test.true c.index-leaves-index.is c.requires.apart in
    let more : hash_map_len c.insert-indexed.new.self ≡ hash_map_len c.loop-index.indices + 1 = rw none at grown in
    record {
      indexed = λ n.
          updates.0 n ∙ ap (λ (m : ℕ). cond (eqb m n) (Some i) (get nat_eq c.loop-index.indices n)) number
          ∙ ap (cond (eqb leaf.segment.number n) (Some i)) (c.loop-index.invariant.indexed n)
          ∙ index-more c.args.leaves.now i n leaf c.loop-index-test.true c.index-leaves-index.is c.requires.apart;
      counted = more ∙ ap (λ (n : ℕ). n + 1) c.loop-index.invariant.counted;
      room = omega (arith, c.insert-indexed.ensures.spare, c.loop-index.invariant.room);
    }
