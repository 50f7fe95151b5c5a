use Rattle.std.proofs.Common.{take}
use Rattle.std.specs.Fmt.{decimal}
use Rattle.std.specs.List.{flat_map}
use Rattle.cat_protocol.specs.sending.Out.{PassesOn}
use Rattle.cat_protocol.proofs.replies.Pieces.{entry_line}
use Rattle.cat_protocol.proofs.replies.lists.put_entries.Given as goal

abbrev pub invariant-loop-entry : goal.invariant-loop-entry
invariant-loop-entry g l = PassesOn (g.W.Write.contents l.fn.to) (g.W.Write.contents l.to) l.fn.lines l.lines (flat_map (entry_line (decimal l.fn.session)) (take l.entry-index l.entries))
