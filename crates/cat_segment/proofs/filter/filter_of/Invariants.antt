use Rattle.std.proofs.Common.{take}
use Rattle.cat_segment.specs.Filter.{IsFilter}
use Rattle.cat_segment.proofs.filter.filter_of.Given as goal

abbrev pub invariant-loop-id : goal.invariant-loop-id
invariant-loop-id l = IsFilter (take l.id-index l.ids) l.bits
