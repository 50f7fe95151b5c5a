use Rattle.std.proofs.Common.{take}
use Rattle.std.specs.Io.KnownBytes.{Appends}
use Rattle.std.specs.List.{flat_map}
use Rattle.cat_check.specs.Telling.{fault_line}
use Rattle.cat_check.proofs.telling.tell_faults.Given as goal

abbrev pub invariant-loop-fault : goal.invariant-loop-fault
invariant-loop-fault g l = Appends (g.W.Write.contents l.fn.out) (g.W.Write.contents l.out) (flat_map fault_line (take l.fault-index l.faults))
