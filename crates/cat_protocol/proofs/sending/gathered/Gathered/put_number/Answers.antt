use Rattle.cat_protocol.proofs.sending.gathered.Gathered.put_number.Goals as goal

pub returns : goal.returns
returns g c = rw (← c.format.ensures.text, ← c.as_bytes.ensures.value) c.put.ensures
