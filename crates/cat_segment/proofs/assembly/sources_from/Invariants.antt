use Rattle.std.proofs.Common.{◌≡◌, take}
use Rattle.cat_segment.proofs.assembly.sources_from.Given as goal

abbrev pub invariant-loop-len : goal.invariant-loop-len
invariant-loop-len l = l.sources ≡ take l.len-index l.lengths
