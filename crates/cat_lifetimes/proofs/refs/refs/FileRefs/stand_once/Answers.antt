use Rattle.std.proofs.Common.{◌≢◌, List, subst}
use Rattle.std.specs.Prelude.{AllPairs}
use Rattle.cat_ledger_laws.specs.model.Users.{Used}
use Rattle.cat_lifetimes.proofs.refs.Unused.{once}
use Rattle.cat_lifetimes.proofs.refs.refs.FileRefs.stand_once.Goals as goal

pub returns : goal.returns
returns c = subst (λ (us : List Used). AllPairs (λ (u v : Used). u.name ≢ v.name) us) c.self.view_is (once c.self.inside.users.entries c.values-users.ensures.unique)
