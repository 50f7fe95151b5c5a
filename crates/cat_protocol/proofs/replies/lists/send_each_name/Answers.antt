use Rattle.std.proofs.Common.{arith}
use Rattle.std.proofs.lemmas.List.{take_all}
use Rattle.std.proofs.KnownBytes.{Appends-nil}
use Rattle.std.proofs.lemmas.Grind.{common_steps}
use Rattle.cat_protocol.proofs.sending.Written.{sent_at_fault}
use Rattle.cat_protocol.proofs.replies.Pieces.{front_within, name_line}
use Rattle.cat_protocol.proofs.replies.lists.send_each_name.Goals as goal

pub returns-in_err-send_name : goal.returns-in_err-send_name
returns-in_err-send_name g c =
    sent_at_fault _ c.from_residual.ensures.0
    (front_within (name_line c.args.session) c.args.names.now c.loop-name.name-index _ _ _ _ c.loop-name-test.true c.loop-name.invariant c.in_err-send_name.ensures)

pub loop-name-init : goal.loop-name-init
loop-name-init g c = Appends-nil _

pub returns : goal.returns
returns g c = rw (take_all c.loop-name.name-index c.args.names.now (omega (arith, c.loop-name-test.false))) at c.loop-name.invariant

pub loop-name-preserved : goal.loop-name-preserved
loop-name-preserved c = grind (arith, common_steps)
