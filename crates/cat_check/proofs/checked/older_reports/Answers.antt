use Rattle.std.proofs.Common.{ℕ, List, ◌∙◌, sym, subst}
use Rattle.cat_check.specs.Below.{AreBelow, AreOlder}
use Rattle.cat_check.proofs.Older.{are_older}
use Rattle.cat_check.proofs.checked.older_reports.Goals as goal

pub returns-clause-older : goal.returns-clause-older
returns-clause-older g c = λ rising.
    subst (λ (xs : List ℕ). AreOlder c.args.names.now xs) (sym (c.in_ok-reports.ensures.each ∙ c.deref.ensures.value))
    (are_older c.args.names.now c.newest_commit.result c.in_ok-generations.generations.items c.newest_commit.ensures
    (subst (λ (n : ℕ). AreBelow c.args.names.now n c.in_ok-generations.generations.items) c.unwrap_or-bound.ensures c.in_ok-generations.ensures) rising)
