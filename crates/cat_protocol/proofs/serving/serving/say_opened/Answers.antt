use Rattle.cat_protocol.proofs.serving.serving.say_opened.Goals as goal

pub returns : goal.returns
returns g c = (c.send_opened.result, rw (← c.start_token.ensures) c.send_opened.ensures, c.as_ended.ensures)
