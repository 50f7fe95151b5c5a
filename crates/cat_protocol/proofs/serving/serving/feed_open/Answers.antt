use Rattle.cat_protocol.proofs.serving.serving.feed_open.Goals as goal

pub returns-clause-served : goal.returns-clause-served
returns-clause-served g c = rw c.in-Open.is c.answer_lines-ended.ensures.served
