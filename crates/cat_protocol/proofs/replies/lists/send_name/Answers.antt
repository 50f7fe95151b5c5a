use Rattle.cat_protocol.proofs.replies.lists.send_name.Goals as goal

pub returns : goal.returns
returns g c = rw (← c.spelling-text.ensures.text, ← c.as_str.ensures.value, ← c.as_bytes.ensures.value) c.send_line.ensures
