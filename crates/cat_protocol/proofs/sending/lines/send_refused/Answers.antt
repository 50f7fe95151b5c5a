use Rattle.std.proofs.Common.{refl}
use Rattle.cat_protocol.proofs.sending.Written.{refused_cut, refused_sent}
use Rattle.cat_protocol.proofs.sending.lines.send_refused.Goals as goal

pub returns-in_err-send : goal.returns-in_err-send
returns-in_err-send g c = refused_cut _ _ c.from_residual.result c.args.refusal _ c.in_err-send.ensures c.from_residual.ensures.0 refl

pub returns : goal.returns
returns g c = refused_sent _ _ _ c.send_reason.result c.args.refusal _ c.in_ok-send.ensures c.send_reason.ensures refl
