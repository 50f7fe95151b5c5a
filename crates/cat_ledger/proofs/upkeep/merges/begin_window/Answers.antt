use Rattle.std.proofs.Common.{List, None, refl, subst}
use Rattle.cat_model.specs.View.{Leaf}
use Rattle.cat_model.specs.Window.{IsWindow}
use Rattle.cat_ledger_laws.specs.lines.PlanLaws.{sizes_in}
use Rattle.cat_ledger_laws.proofs.lines.Planned.{merges_rest}
use Rattle.cat_ledger.proofs.upkeep.Made.{left_as_it_was}
use Rattle.cat_ledger.proofs.Refused.{nothing_flushed}
use Rattle.cat_ledger.proofs.upkeep.merges.begin_window.Goals as goal

pub returns-in-Ok-None-clause-ok : goal.returns-in-Ok-None-clause-ok
returns-in-Ok-None-clause-ok g c =
    let told = g.D.Holder.bytes c.args.device.now in
    merges_rest c.args.policy c.args.core.now told told c.requires
    (subst (λ (leaves : List Leaf). IsWindow c.args.policy.factor c.args.policy.least (sizes_in leaves) None) c.leaves.ensures
    (rw c.in-Ok-None.field-0-is at c.in-Ok-None.ensures))
    (λ q. refl)

pub returns-in-Err-clause-err : goal.returns-in-Err-clause-err
returns-in-Err-clause-err g c = left_as_it_was (g.D.Holder.bytes c.args.device.now) c.args.core.now

pub returns-in-Err-clause-segments : goal.returns-in-Err-clause-segments
returns-in-Err-clause-segments g c = nothing_flushed c.args.core.now

pub returns-in-Err-clause-crash : goal.returns-in-Err-clause-crash
returns-in-Err-clause-crash g c = λ q old e might. might

pub returns-in-Err-clause-commits : goal.returns-in-Err-clause-commits
returns-in-Err-clause-commits g c = λ n e might. might
