use Rattle.std.proofs.Common.{◌≡◌, ℕ, ◌+◌, ◌*◌, ◌/◌, ◌%◌, ◌<◌, ◌≤◌, List, length, ap, sym, inl, inr, arith, ◌∙◌}
use Rattle.std.proofs.lemmas.Bool.{cases_lt}
use Rattle.std.proofs.lemmas.List.{get_or_past, length_push}
use Rattle.cat_columns.specs.Bits.{has_bit, is_set, has_row_bit}
use Rattle.cat_columns.proofs.Bits.{has_bit-zero}
use Rattle.cat_columns.proofs.Bytes.{block_more, row_bit_past}
use Rattle.cat_columns.proofs.packed.blocks_of.Goals as goal

-- past the last block no bit is 1, nor past the last byte
no_others : (blocks bytes : List ℕ) (k : ℕ) → length blocks ≡ k → length bytes ≤ 8 * k → ((row : ℕ) → row < 64 * k → is_set blocks row ≡ has_row_bit bytes row) → (row : ℕ) → is_set blocks row ≡ has_row_bit bytes row
no_others blocks bytes k long reach done row = elim (cases_lt row (64 * k)) [
  | inl under ↦ done row under
  | inr past ↦ ap (λ w. has_bit w (row % 64)) (get_or_past blocks (row / 64) 0 (omega arith)) ∙ has_bit-zero (row % 64) ∙ sym (row_bit_past bytes row (omega arith))
]

pub loop-k-preserved : goal.loop-k-preserved
loop-k-preserved c = record {
  long = ap length c.in_ok-push.ensures.items ∙ length_push c.loop-k.blocks.items c.block_at.result ∙ ap (λ n. n + 1) c.loop-k.invariant.long;
  bits = block_more (has_row_bit c.args.bytes.now) c.loop-k.blocks.items _ c.block_at.result c.loop-k.k c.loop-k.invariant.long c.in_ok-push.ensures.items c.block_at.ensures c.loop-k.invariant.bits;
}

pub returns : goal.returns
returns c = record {
  long = omega (arith, c.loop-k.invariant.long);
  bits = no_others c.loop-k.blocks.items c.args.bytes.now c.loop-k.k c.loop-k.invariant.long (omega arith) c.loop-k.invariant.bits;
}
