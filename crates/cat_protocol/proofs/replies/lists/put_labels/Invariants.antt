use Rattle.std.proofs.Common.{take}
use Rattle.std.specs.Fmt.{decimal}
use Rattle.std.specs.List.{flat_map}
use Rattle.cat_protocol.specs.sending.Out.{PassesOn}
use Rattle.cat_protocol.proofs.replies.Pieces.{counted_line}
use Rattle.cat_protocol.proofs.replies.lists.put_labels.Given as goal

abbrev pub invariant-loop-counted : goal.invariant-loop-counted
invariant-loop-counted g l = PassesOn (g.W.Write.contents l.fn.to) (g.W.Write.contents l.to) l.fn.lines l.lines (flat_map (counted_line (decimal l.fn.session)) (take l.counted-index l.counts))
