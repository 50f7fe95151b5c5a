use Rattle.cat_protocol.proofs.replies.telling.send_told.Goals as goal

pub returns : goal.returns
returns g c = c.send_line.ensures
