use Rattle.std.proofs.Common.{◌≡◌, ℕ, get_or, refl, sym, arith, ap, below_more, slice_set, ◌∙◌}
use Rattle.std.proofs.lemmas.List.{get_or-set_other, get_or-set_same}
use Rattle.std.specs.Prelude.{bit_and}
use Rattle.std.specs.Int.{bit_not, w64}
use Rattle.cat_model.specs.RowSets.{first_only}
use Rattle.cat_columns.proofs.Bits.{is_set_joined, has_bit-and_not}
use Rattle.cat_columns.proofs.blocks.clear_blocks.Goals as goal

pub loop-k-preserved : goal.loop-k-preserved
loop-k-preserved c =
    let blocks = c.loop-k.blocks in
    let others = c.args.others.now in
    let at = c.loop-k.k in
    let block = bit_and (get_or blocks at 0) (bit_not w64 (get_or others at 0)) in
    record {
      done = below_more (λ k. get_or (slice_set blocks at block) k 0 ≡ bit_and (get_or c.args.blocks.now k 0) (bit_not w64 (get_or others k 0))) at
          (λ k lt. get_or-set_other blocks at k block 0 (λ e. omega (arith, e, lt)) ∙ c.loop-k.invariant.done k lt)
          (get_or-set_same blocks at block 0 (omega (arith, c.loop-k-test.true, c.loop-k.auto.blocks))
          ∙ ap (λ b. bit_and b (bit_not w64 (get_or others at 0))) (c.loop-k.invariant.left at (omega arith)));
      left = λ k le. get_or-set_other blocks at k block 0 (λ e. omega (arith, e, le)) ∙ c.loop-k.invariant.left k (omega (arith, le));
    }

pub returns : goal.returns
returns c =
    is_set_joined first_only (λ a b. bit_and a (bit_not w64 b)) c.args.blocks.now c.loop-k.blocks c.args.others.now refl (λ a b i lt fits. has_bit-and_not a b i fits lt) c.loop-k.auto.blocks (sym c.requires)
    (λ k. (c.type_inv.others k).fits) (λ k lt. c.loop-k.invariant.done k (omega arith))
