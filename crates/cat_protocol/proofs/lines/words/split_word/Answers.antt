use Rattle.std.proofs.Common.{arith}
use Rattle.std.proofs.lemmas.Grind.{common_steps}
use Rattle.cat_protocol.proofs.lines.WordsSplit.{split_first, split_none}
use Rattle.cat_protocol.proofs.lines.words.split_word.Goals as goal

pub returns-clause-first : goal.returns-clause-first
returns-clause-first c = split_first c.args.text.now _ c.split_once.ensures.cases

pub returns-clause-none : goal.returns-clause-none
returns-clause-none c = split_none c.args.text.now _ c.split_once.ensures.cases

pub returns-clause-found : goal.returns-clause-found
returns-clause-found c = grind (arith, common_steps)
