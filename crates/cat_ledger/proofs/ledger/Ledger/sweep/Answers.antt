use Rattle.std.proofs.Common.{[], ap}
use Rattle.cat_ledger.proofs.Failures.{writing_fails, writing_refusals}
use Rattle.cat_ledger.proofs.Lasting.{sweep_keeps}
use Rattle.cat_ledger.proofs.Results.{if_ok}
use Rattle.cat_ledger_laws.proofs.shape.Writes.{sweeps_make}
use Rattle.cat_ledger.proofs.Histories.{goes_so, gone_goes}
use Rattle.cat_ledger_laws.proofs.model.Taking.{takes_sweep}
use Rattle.cat_ledger.proofs.Lasting.{lets_sweep}
use Rattle.cat_ledger_laws.specs.model.Calls.{MayLeave}
use Rattle.cat_ledger_laws.specs.shape.Shapes.{Shape}
use Rattle.cat_ledger.proofs.ledger.Ledger.sweep.Goals as goal

pub invariant_of-self : goal.invariant_of-self
invariant_of-self g c =
    sweep_keeps g.D.Holder.bytes g.D.Holder.may_leave g.met.D.Holder.may_stay c.self.inside.device c.sweep.new.device c.self.inside.core c.sweep.new.self
    c.sweep.ensures.leaves c.sweep.ensures.used c.sweep.ensures.crash c.self.invariant

pub returns-clause-ok : goal.returns-clause-ok
returns-clause-ok g c =
    rw (← c.self.view_is) (sweeps_make c.self.inside.core c.sweep.new.self (g.D.Holder.bytes c.self.inside.device) (g.D.Holder.bytes c.sweep.new.device)
    c.sweep.ensures.leaves c.sweep.ensures.used)

pub returns-clause-fails : goal.returns-clause-fails
returns-clause-fails g c = rw (← c.self.view_is) (writing_fails c.sweep.result c.sweep.ensures.fails c.sweep.ensures.rises)

pub returns-clause-goes : goal.returns-clause-goes
returns-clause-goes g c =
    rw (← c.self.view_is) (goes_so g.D.Holder.bytes g.D.Holder.may_leave (gone_goes g.D.Holder.bytes g.D.Holder.may_leave (MayLeave []) lets_sweep (takes_sweep []) c.self.inside.device c.sweep.new.device c.self.inside.core c.sweep.new.self
    c.self.inside.policy c.self.inside.policy (sweeps_make c.self.inside.core c.sweep.new.self (g.D.Holder.bytes c.self.inside.device) (g.D.Holder.bytes c.sweep.new.device)
    c.sweep.ensures.leaves c.sweep.ensures.used) c.self.invariant.carried c.sweep.ensures.files.back))

pub returns-clause-making : goal.returns-clause-making
returns-clause-making g c = rw (← c.self.view_is) (ap (λ (s : Shape). s.merging) c.sweep.ensures.leaves.rest)

pub returns-clause-files : goal.returns-clause-files
returns-clause-files g c = rw (← c.self.view_is) c.sweep.ensures.files

pub returns-clause-none : goal.returns-clause-none
returns-clause-none g c = if_ok _ _ c.sweep.result (λ n left. left.1) c.sweep.ensures.ok

pub returns-clause-count : goal.returns-clause-count
returns-clause-count g c = rw (← c.self.view_is) (if_ok _ _ c.sweep.result (λ n left. left.0) c.sweep.ensures.ok)

pub returns-clause-memory : goal.returns-clause-memory
returns-clause-memory g c = rw (← c.self.view_is) c.sweep.ensures.memory

pub returns-clause-stays : goal.returns-clause-stays
returns-clause-stays g c = c.sweep.ensures.stays

pub returns-clause-used : goal.returns-clause-used
returns-clause-used g c = rw (← c.self.view_is) c.sweep.ensures.used

pub returns-clause-crash : goal.returns-clause-crash
returns-clause-crash g c = rw (← c.self.view_is) c.sweep.ensures.crash

pub returns-clause-refusal : goal.returns-clause-refusal
returns-clause-refusal g c = writing_refusals _ _ c.sweep.result c.sweep.ensures.fails.counted
