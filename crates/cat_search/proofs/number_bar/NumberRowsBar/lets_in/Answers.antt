use Rattle.std.proofs.Common.{arith}
use Rattle.std.proofs.lemmas.Grind.{elements}
use Rattle.cat_search.proofs.number_bar.NumberRowsBar.lets_in.Goals as goal

pub value-requires : goal.value-requires
value-requires c = grind (arith, elements)
