use Rattle.cat_base.proofs.Spellings.{u32_exact, u64_exact, bytes_exact}
use Rattle.cat_base.proofs.codec.spellings_are_exact.Goals as goal

pub returns : goal.returns
returns c = record {
  u32s = u32_exact;
  u64s = u64_exact;
  byte_strings = bytes_exact;
}
