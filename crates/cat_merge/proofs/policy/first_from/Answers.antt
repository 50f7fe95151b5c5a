use Rattle.std.proofs.Common.{◌≡◌, ℕ, ◌≤◌, ◌+◌, inl, inr, Some, None, Option, subst, sym, ◌∙◌}
use Rattle.cat_merge.specs.Runs.{IsFirstFrom}
use Rattle.cat_merge.specs.declared.policy.Candidate.{Candidate}
use Rattle.cat_merge.proofs.Runs.{nothing_first, lower_first, run_first}
use Rattle.cat_merge.proofs.policy.first_from.Goals as goal
use Rattle.cat_merge.proofs.policy.first_from.Goals.{then-run-factor-via-then-run-factor, then-run-factor-via-else-run-factor+then-run}

-- no other has a lower level
only_higher : (level : ℕ) (c : Candidate) (behind : Option Candidate) → behind ≡ Some c → level ≤ c.level → (d : Candidate) → behind ≡ Some d → level ≤ d.level
only_higher level c None e le d f = absurd (cc)
only_higher level c (Some b) e le d f = let same : c ≡ d = cc in subst (λ k. level ≤ k.level) same le

pub returns-then-run-factor : goal.returns-then-run-factor
returns-then-run-factor c = λ least sizes is first.
    nothing_first c.args.factor least sizes c.args.index c.args.run c.args.behind c.requires is
    (elim c.then-run-factor.branch [
      | then-run-factor-via-then-run-factor w ↦ inl w.if-run-factor.true
      | then-run-factor-via-else-run-factor+then-run w ↦ inr w.if-run.true
    ]) first

pub returns-in-Some : goal.returns-in-Some
returns-in-Some c = λ least sizes is first.
    lower_first c.args.factor least sizes c.args.index c.args.run c.in-Some.lower c.requires is c.if-lower-run.true
    (subst (λ o. IsFirstFrom c.args.factor least sizes (c.args.index + 1) o) c.in-Some.is first)

pub returns-in_default : goal.returns-in_default
returns-in_default c = λ least sizes is first.
    run_first c.args.factor least sizes c.args.index c.args.run c.args.behind c.requires is c.if-run-factor.false c.if-run.false
    (only_higher c.args.run.level c.in-Some.lower c.args.behind c.in-Some.is c.if-lower-run.false) first

pub returns-in_default-2 : goal.returns-in_default-2
returns-in_default-2 c = λ least sizes is first.
    run_first c.args.factor least sizes c.args.index c.args.run c.args.behind c.requires is c.if-run-factor.false c.if-run.false
    (λ d e. absurd (let none : None ≡ Some d = sym c.in_default.is ∙ e in cc)) first
