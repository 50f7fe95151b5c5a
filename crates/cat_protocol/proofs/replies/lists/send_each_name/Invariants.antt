use Rattle.std.proofs.Common.{take}
use Rattle.std.specs.Io.KnownBytes.{Appends}
use Rattle.std.specs.List.{flat_map}
use Rattle.cat_protocol.proofs.replies.Pieces.{name_line}
use Rattle.cat_protocol.proofs.replies.lists.send_each_name.Given as goal

abbrev pub invariant-loop-name : goal.invariant-loop-name
invariant-loop-name g l = Appends (g.W.Write.contents l.fn.to) (g.W.Write.contents l.to) (flat_map (name_line l.session) (take l.name-index l.names))
