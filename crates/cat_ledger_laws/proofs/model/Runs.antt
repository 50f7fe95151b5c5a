-- The ledger's calls keep the run that its state stands for.
use Rattle.std.proofs.Common.{subst, sym}
use Rattle.cat_model.specs.State.{Step}
use Rattle.cat_model.proofs.States.{steps_keep_runs}
use Rattle.cat_ledger_laws.specs.model.Ledger.{state_of}
use Rattle.cat_ledger_laws.specs.model.Laws.{CallsKeepRuns}
use Rattle.cat_ledger_laws.proofs.model.Replies.{calls_are_steps}

pub calls_keep_runs : CallsKeepRuns
calls_keep_runs policy from run l new line r same is_run stands ok call =
    let k = calls_are_steps policy l new line r ok call in
    let kept = steps_keep_runs from run (state_of l) (state_of new) line r is_run stands (subst (λ schema. Step schema (state_of l) line r (state_of new)) (sym same) k.1) in
    (k.0, kept.0, kept.1)
