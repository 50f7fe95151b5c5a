use Rattle.cat_protocol.proofs.sending.Written.{sent_in_two}
use Rattle.cat_protocol.proofs.sending.pieces.send.Goals as goal

pub returns : goal.returns
returns g c = sent_in_two _ _ _ _ c.args.bytes.now c.in_ok-sent.sent c.in_ok-sent.ensures.ok c.send_rest.ensures
