use Rattle.std.proofs.Common.{ℕ, ◌+◌, ◌<◌, List, length, ap, sym, subst, arith, ◌∙◌}
use Rattle.std.proofs.lemmas.List.{length_push}
use Rattle.std.proofs.lemmas.List.Elements.{All-push}
use Rattle.std.specs.Prelude.{All}
use Rattle.cat_columns.specs.Bits.{is_set}
use Rattle.cat_columns.proofs.Bytes.{byte_more}
use Rattle.cat_columns.proofs.packed.bytes_of.Goals as goal

pub loop-index-preserved : goal.loop-index-preserved
loop-index-preserved c = record {
  long = ap length c.in_ok-push.ensures.items ∙ length_push c.loop-index.bytes.items c.byte_at.result ∙ ap (λ n. n + 1) c.loop-index.invariant.long;
  fits = subst (λ (l : List ℕ). All (λ b. b < 256) l) (sym c.in_ok-push.ensures.items) (All-push (λ b. b < 256) c.loop-index.bytes.items c.byte_at.result c.loop-index.invariant.fits c.byte_at.type_inv);
  bits = byte_more (is_set c.args.blocks.now) c.loop-index.bytes.items _ c.byte_at.result c.loop-index.index c.loop-index.invariant.long c.in_ok-push.ensures.items c.byte_at.ensures c.loop-index.invariant.bits;
}

pub returns : goal.returns
returns c = record {
  long = omega (arith, c.loop-index.invariant.long);
  bytes = c.loop-index.invariant.fits;
  bits = λ row lt. c.loop-index.invariant.bits row (omega arith);
}
