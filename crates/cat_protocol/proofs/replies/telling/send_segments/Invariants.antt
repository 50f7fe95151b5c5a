use Rattle.std.proofs.Common.{take}
use Rattle.std.specs.Io.KnownBytes.{Appends}
use Rattle.std.specs.List.{flat_map}
use Rattle.cat_protocol.proofs.replies.Pieces.{segment_line}
use Rattle.cat_protocol.proofs.replies.telling.send_segments.Given as goal

abbrev pub invariant-loop-segment : goal.invariant-loop-segment
invariant-loop-segment g l = Appends (g.W.Write.contents l.fn.to) (g.W.Write.contents l.to) (flat_map (segment_line l.session) (take l.segment-index l.segments))
