use Rattle.std.proofs.Common.{ap, eq-eqb, eqb, w64}
use Rattle.std.proofs.lemmas.Nat.Bits.{bit_at-trailing_zeros}
use Rattle.cat_search.proofs.BlockRows.{bits_above}
use Rattle.cat_search.proofs.blocks.first_bit.Goals as goal

pub returns : goal.returns
returns c =
    let found = bit_at-trailing_zeros w64 c.args.bits c.requires c.ranges.bits.fits in
    record {
      below = λ i h. ap (λ n. eqb n 1) (found.2 i h);
      here = eq-eqb _ 1 found.1;
      above = λ i. bits_above c.args.bits _ i;
      within = found.0;
    }
