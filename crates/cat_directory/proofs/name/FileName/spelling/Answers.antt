use Rattle.std.proofs.Common.{rules, arith}
use Rattle.std.proofs.lemmas.Grind.{common_steps}
use Rattle.cat_directory.proofs.name.FileName.spelling.Goals as goal

pub returns-in-Source-clause-text : goal.returns-in-Source-clause-text
returns-in-Source-clause-text c = search rules depth 1

pub returns-in-Live-clause-text : goal.returns-in-Live-clause-text
returns-in-Live-clause-text c = grind (arith, common_steps)
