use Rattle.cat_protocol.proofs.replies.telling.send_counted.Goals as goal

pub returns : goal.returns
returns g c = c.send_line.ensures
