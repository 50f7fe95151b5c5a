use Rattle.std.proofs.Common.{◌≡◌, true, false, inl, inr, ap, sym, ◌∙◌}
use Rattle.std.specs.Prelude.{is_some}
use Rattle.cat_base.specs.declared.refusal.Refusal.TheVariants.{Memory}
use Rattle.cat_ledger_state.specs.Cores.{MayCopy}
use Rattle.cat_ledger_state.proofs.Merging.{idle_to_copy}
use Rattle.cat_ledger_state.proofs.Results.{if_ok, on_any}
use Rattle.cat_ledger.proofs.Failures.{fails_or, none_is_spent}
use Rattle.cat_ledger.proofs.Results.{if_err}
use Rattle.cat_ledger.proofs.upkeep.merges.merge_step.Goals as goal

pub returns-then-is_merging-clause-ok : goal.returns-then-is_merging-clause-ok
returns-then-is_merging-clause-ok g c = if_ok _ _ c.go_on.result (λ news k. k c.args.policy) c.go_on.ensures.ok

pub returns-then-is_merging-clause-fails : goal.returns-then-is_merging-clause-fails
returns-then-is_merging-clause-fails g c = c.go_on.ensures.fails

pub returns-clause-fails : goal.returns-clause-fails
returns-clause-fails g c = fails_or c.begin_window.result c.begin_window.ensures.fails

pub returns-clause-reach : goal.returns-clause-reach
returns-clause-reach g c =
    let told = g.D.Holder.bytes c.args.device.now in
    let merging = c.args.core.now.merging in
    on_any (MayCopy told merging) Memory c.begin_window.result (idle_to_copy told merging (sym c.is_merging.ensures ∙ c.if-is_merging.false))

pub returns-then-is_merging-clause-err : goal.returns-then-is_merging-clause-err
returns-then-is_merging-clause-err g c = c.go_on.ensures.err

pub returns-then-is_merging-clause-segments : goal.returns-then-is_merging-clause-segments
returns-then-is_merging-clause-segments g c = c.go_on.ensures.segments

pub returns-then-is_merging-clause-damaged : goal.returns-then-is_merging-clause-damaged
returns-then-is_merging-clause-damaged g c = c.go_on.ensures.damaged

pub returns-then-is_merging-clause-lacking : goal.returns-then-is_merging-clause-lacking
returns-then-is_merging-clause-lacking g c = c.go_on.ensures.lacking

pub returns-then-is_merging-clause-short : goal.returns-then-is_merging-clause-short
returns-then-is_merging-clause-short g c = c.go_on.ensures.short

pub returns-then-is_merging-clause-reach : goal.returns-then-is_merging-clause-reach
returns-then-is_merging-clause-reach g c = c.go_on.ensures.reach

pub returns-then-is_merging-clause-spent : goal.returns-then-is_merging-clause-spent
returns-then-is_merging-clause-spent g c = if_err _ _ c.go_on.result (λ e is spent. absurd (none_is_spent e is spent)) c.go_on.ensures.refusal

pub returns-then-is_merging-clause-refusal : goal.returns-then-is_merging-clause-refusal
returns-then-is_merging-clause-refusal g c = if_err _ _ c.go_on.result (λ e is. elim is [
  | inl memory ↦ inl memory
  | inr (inl device) ↦ inr (inl device)
  | inr (inr damaged) ↦ inr (inr (inl damaged))
]) c.go_on.ensures.refusal

pub returns-then-is_merging-clause-left : goal.returns-then-is_merging-clause-left
returns-then-is_merging-clause-left g c = if_err _ _ c.go_on.result (λ e is out. inl (λ none.
    let no : true ≡ false = sym c.if-is_merging.true ∙ c.is_merging.ensures ∙ ap is_some none in cc)) c.go_on.ensures.refusal
