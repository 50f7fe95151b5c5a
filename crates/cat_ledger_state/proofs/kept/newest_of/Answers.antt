use Rattle.std.proofs.Common.{Some, ◌∙◌, ap}
use Rattle.cat_ledger_state.proofs.Leaving.{last_generation}
use Rattle.cat_ledger_state.proofs.kept.newest_of.Goals as goal

pub returns-in-Some : goal.returns-in-Some
returns-in-Some c = ap (λ x. Some x.generation) c.commit.view_is ∙ last_generation c.args.commits.now c.in-Some.commit.now c.in-Some.ensures.value
