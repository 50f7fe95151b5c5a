use Rattle.cat_protocol.proofs.replies.sending.send_ok.Goals as goal

pub returns : goal.returns
returns g c = c.send_line.ensures
