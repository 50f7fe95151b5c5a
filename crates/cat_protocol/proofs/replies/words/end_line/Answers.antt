use Rattle.cat_protocol.proofs.replies.words.end_line.Goals as goal

pub returns : goal.returns
returns g c = c.put.ensures
