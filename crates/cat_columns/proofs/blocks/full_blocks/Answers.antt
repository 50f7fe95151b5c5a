use Rattle.std.proofs.Common.{ap, arith}
use Rattle.std.proofs.Common.{set, ◌/◌, ◌%◌, ◌-◌}
use Rattle.std.proofs.lemmas.Nat.{one_shl}
use Rattle.cat_columns.proofs.Bits.{full_whole, full_cut, length-full}
use Rattle.cat_columns.proofs.blocks.full_blocks.Goals as goal

pub returns-then-over-eq0 : goal.returns-then-over-eq0
returns-then-over-eq0 c = record {
  ok = (((length-full _ _ 0 0 _ (c.in_ok-blocks.ensures.items_if_clones_equal (λ y h. h))).0, full_whole c.args.len _ (c.in_ok-blocks.ensures.items_if_clones_equal (λ y h. h)) c.if-over-eq0.true));
}

pub returns : goal.returns
returns c = record {
  ok = (((length-full _ _ _ _ _ (c.in_ok-blocks.ensures.items_if_clones_equal (λ y h. h))).1, full_cut c.args.len c.in_ok-blocks.blocks.items _ (c.in_ok-blocks.ensures.items_if_clones_equal (λ y h. h)) c.if-over-eq0.false (ap (λ n. set c.in_ok-blocks.blocks.items (c.args.len / 64) (n - 1)) (one_shl (c.args.len % 64) 64 (omega arith)))));
}
