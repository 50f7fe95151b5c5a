use Rattle.std.proofs.Common.{arith}
use Rattle.std.proofs.lemmas.Grind.{elements}
use Rattle.cat_directory.proofs.system_folder.read_part.Goals as goal

pub returns : goal.returns
returns c = grind (arith, elements)
