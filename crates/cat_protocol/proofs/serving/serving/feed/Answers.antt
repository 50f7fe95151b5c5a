use Rattle.cat_protocol.proofs.serving.serving.feed.Goals as goal

pub returns-in-Waiting-clause-served : goal.returns-in-Waiting-clause-served
returns-in-Waiting-clause-served g c = rw c.in-Waiting.is c.feed_first.ensures.served
