use Rattle.std.proofs.Common.{rules}
use Rattle.cat_facets.proofs.states.KeptState.is_of.Goals as goal

pub returns-then-eq : goal.returns-then-eq
returns-then-eq c = search rules depth 1
