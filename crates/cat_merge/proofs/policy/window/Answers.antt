use Rattle.std.proofs.Common.{◌≡◌, ℕ, ◌+◌, ◌-◌, ◌≤◌, List, arith, subst, sym, ap, ◌∙◌, Option, Some}
use Rattle.std.specs.Prelude.{option_map}
use Rattle.cat_model.specs.Window.{IsWindow}
use Rattle.cat_merge.specs.Runs.{IsMergeRun, IsFirstFrom}
use Rattle.std.proofs.Math.Seq.{drop-length}
use Rattle.cat_merge.specs.declared.policy.Candidate.{Candidate}
use Rattle.cat_merge.proofs.Runs.{no_run, window_first}
use Rattle.cat_merge.proofs.policy.window.Goals as goal

pub loop-index-init : goal.loop-index-init
loop-index-init c = record {
  run = subst (λ l. IsMergeRun c.args.factor c.args.minimum l (record { level = 0; count = 0; rows = 0 })) (sym (drop-length c.args.sizes.now)) (no_run c.args.factor c.args.minimum);
  first = λ level index le m. omega (arith, le, m.within, c.requires.some);
}

pub loop-index-preserved : goal.loop-index-preserved
loop-index-preserved c = record {
  run = c.run_from-run.ensures;
  first = c.first_from-first.ensures c.args.minimum c.args.sizes.now c.run_from-run.ensures
      (subst (λ i. IsFirstFrom c.args.factor c.args.minimum c.args.sizes.now i c.loop-index.first) (let same : c.loop-index.index ≡ c.loop-index.index - 1 + 1 = omega arith in same)
      c.loop-index.invariant.first);
}

-- the loop ends at the first segment
is_window : (factor least : ℕ) (sizes : List ℕ) (index : ℕ) (first : Option Candidate) (result : Option ℕ) → index ≤ 0 → IsFirstFrom factor least sizes index first
    → option_map (λ c. c.index) first ≡ result → IsWindow factor least sizes result
is_window factor least sizes index first result end is same =
    let start : index ≡ 0 = omega (arith, end) in
    subst (λ o. IsWindow factor least sizes o) same (window_first factor least sizes first (subst (λ i. IsFirstFrom factor least sizes i first) start is))

pub returns-in_err-first : goal.returns-in_err-first
returns-in_err-first c = is_window c.args.factor c.args.minimum c.args.sizes.now c.loop-index.index c.loop-index.first c.from_residual.result
    c.loop-index-test.false c.loop-index.invariant.first (ap (λ o. option_map (λ c. c.index) o) c.in_err-first.was ∙ sym c.from_residual.ensures)

pub returns : goal.returns
returns c = is_window c.args.factor c.args.minimum c.args.sizes.now c.loop-index.index c.loop-index.first (Some c.in_ok-first.field-0.index)
    c.loop-index-test.false c.loop-index.invariant.first (ap (λ o. option_map (λ c. c.index) o) c.in_ok-first.was)
