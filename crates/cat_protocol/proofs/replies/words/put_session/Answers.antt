use Rattle.cat_protocol.proofs.replies.words.put_session.Goals as goal

pub returns : goal.returns
returns g c = c.put_number.ensures
