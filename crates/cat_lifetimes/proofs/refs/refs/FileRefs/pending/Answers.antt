use Rattle.std.proofs.Common.{◌≡◌, ◌≢◌, ℕ, List, rules, ap, ◌∙◌, subst}
use Rattle.std.specs.Prelude.{◌==◌, count_by, AllPairs}
use Rattle.std.specs.Map.{values_of}
use Rattle.cat_ledger_laws.specs.model.Users.{Used}
use Rattle.cat_lifetimes.proofs.refs.Named.{unused_in}
use Rattle.cat_lifetimes.proofs.refs.Unused.{once}
use Rattle.cat_lifetimes.proofs.refs.refs.FileRefs.pending.Goals as goal

pub returns-clause-count : goal.returns-clause-count
returns-clause-count c =
    let counted : c.count.result ≡ count_by (λ (n : ℕ). n == 0) (values_of c.self.inside.users.entries) = search rules in
    counted ∙ unused_in c.self.inside.users.entries ∙ ap (λ (us : List Used). count_by (λ (u : Used). u.users == 0) us) c.self.view_is

pub returns-clause-once : goal.returns-clause-once
returns-clause-once c = subst (λ (us : List Used). AllPairs (λ (u v : Used). u.name ≢ v.name) us) c.self.view_is (once c.self.inside.users.entries c.values.ensures.unique)
