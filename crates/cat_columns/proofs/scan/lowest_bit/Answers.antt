use Rattle.std.proofs.Common.{w64}
use Rattle.std.proofs.lemmas.Nat.Bits.{bit_at-trailing_zeros}
use Rattle.cat_columns.proofs.scan.lowest_bit.Goals as goal

pub returns : goal.returns
returns c = let found = bit_at-trailing_zeros w64 c.args.block c.requires c.ranges.block.fits in record { within = found.0; is_in = found.1; below = found.2 }
