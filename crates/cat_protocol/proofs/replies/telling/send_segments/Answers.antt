use Rattle.std.proofs.Common.{arith}
use Rattle.std.proofs.lemmas.List.{take_all}
use Rattle.std.proofs.KnownBytes.{Appends-nil}
use Rattle.std.proofs.lemmas.Grind.{common_steps}
use Rattle.cat_protocol.proofs.sending.Written.{sent_at_fault}
use Rattle.cat_protocol.proofs.replies.Pieces.{front_within, segment_line}
use Rattle.cat_protocol.proofs.replies.telling.send_segments.Goals as goal

pub returns-in_err-send_segment : goal.returns-in_err-send_segment
returns-in_err-send_segment g c =
    sent_at_fault _ c.from_residual.ensures.0
    (front_within (segment_line c.args.session) c.args.segments.now c.loop-segment.segment-index _ _ _ _ c.loop-segment-test.true c.loop-segment.invariant c.in_err-send_segment.ensures)

pub loop-segment-init : goal.loop-segment-init
loop-segment-init g c = Appends-nil _

pub returns : goal.returns
returns g c = rw (take_all c.loop-segment.segment-index c.args.segments.now (omega (arith, c.loop-segment-test.false))) at c.loop-segment.invariant

pub loop-segment-preserved : goal.loop-segment-preserved
loop-segment-preserved c = grind (arith, common_steps)
