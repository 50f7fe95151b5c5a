use Rattle.std.proofs.Common.{◌≡◌, ℕ, ◌+◌, List, refl, subst, ap, sym}
use Rattle.std.specs.Prelude.{Option, Some, unwrap_or}
use Rattle.std.specs.Map.{lookup}
use Rattle.cat_directory.specs.declared.name.FileName.{FileName}
use Rattle.cat_directory.specs.Names.{same_name}
use Rattle.cat_lifetimes.specs.refs.Counts.{PutsUsers, users_under}
use Rattle.cat_lifetimes.proofs.refs.refs.add_user.Goals as goal

pub returns-in-Some-clause-added : goal.returns-in-Some-clause-added
returns-in-Some-clause-added c =
    let es : List (FileName × ℕ) = c.args.users.now.entries in
    let k : FileName = c.args.name in
    let more : ℕ = c.in-Some.count.now + 1 in
    let there : lookup (same_name k) es ≡ Some c.in-Some.count.now = sym c.in-Some.ensures.value in
    let found : c.in-Some.count.now ≡ users_under es k = sym (ap (λ (o : Option ℕ). unwrap_or o 0) there) in
    let through = c.get_mut.follows.holds more in
    let updates = through.3 (rw there refl) in
    let puts : PutsUsers es (c.get_mut.follows.lender more).entries k more = updates.0 in
    subst (PutsUsers es (c.get_mut.follows.lender more).entries k) (ap (λ n. n + 1) found) puts
