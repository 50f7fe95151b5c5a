use Rattle.std.proofs.Common.{◌+◌, ◌*◌, ◌≤◌, subst}
use Rattle.std.specs.Prelude.{◌==◌, count_by}
use Rattle.cat_ledger_laws.specs.model.Users.{Used}
use Rattle.cat_ledger.specs.Ledgers.{shape_in}
use Rattle.cat_ledger.proofs.ledger.Ledger.newest_lasts.Goals as goal

pub returns-clause-few : goal.returns-clause-few
returns-clause-few g c =
    subst (λ l. count_by (λ (u : Used). u.users == 0) (shape_in l).users + 2 ≤ (shape_in l).next_segment * ((shape_in l).next_generation + 1)) c.self.view_is c.few_are_pending.ensures
