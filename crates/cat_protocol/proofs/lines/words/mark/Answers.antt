use Rattle.cat_protocol.proofs.lines.words.mark.Goals as goal

pub returns-clause-found : goal.returns-clause-found
returns-clause-found c = c.in_ok-number.ensures.found
