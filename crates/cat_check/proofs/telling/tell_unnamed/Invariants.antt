use Rattle.std.proofs.Common.{take}
use Rattle.std.specs.Io.KnownBytes.{Appends}
use Rattle.std.specs.List.{flat_map}
use Rattle.cat_check.specs.Telling.{unnamed_line}
use Rattle.cat_check.proofs.telling.tell_unnamed.Given as goal

abbrev pub invariant-loop-name : goal.invariant-loop-name
invariant-loop-name g l = Appends (g.W.Write.contents l.fn.out) (g.W.Write.contents l.out) (flat_map unnamed_line (take l.name-index l.names))
