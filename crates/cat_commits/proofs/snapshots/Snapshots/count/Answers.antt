use Rattle.std.proofs.Common.{◌≡◌, ◌∙◌, sym, ap, nat_eq, rules}
use Rattle.std.specs.Prelude.{unwrap_or}
use Rattle.std.specs.Map.{lookup}
use Rattle.cat_model.specs.State.{snapshots_in}
use Rattle.cat_commits.proofs.Taken.{counted_in}
use Rattle.cat_commits.proofs.snapshots.Snapshots.count.Goals as goal

pub returns-clause-count : goal.returns-clause-count
returns-clause-count c =
    let found : c.unwrap_or.result ≡ unwrap_or (lookup (nat_eq c.args.generation) c.self.inside.counts.entries) 0 = search rules in
    found ∙ sym (counted_in c.args.generation c.self.inside.counts.entries) ∙ ap (λ us. snapshots_in us c.args.generation) c.self.view_is
