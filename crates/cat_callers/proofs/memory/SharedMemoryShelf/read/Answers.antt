use Rattle.std.proofs.Common.{refl}
use Rattle.cat_callers.proofs.Untold.{if_err, if_ok, so_if_ok}
use Rattle.cat_callers.proofs.memory.SharedMemoryShelf.read.Goals as goal

pub returns-clause-ok : goal.returns-clause-ok
returns-clause-ok g c = if_ok c.counted.result _ (λ v bs none. absurd (cc none))

pub returns-clause-absent : goal.returns-clause-absent
returns-clause-absent g c = if_ok c.counted.result _ (λ x none. cc none)

pub returns-clause-len : goal.returns-clause-len
returns-clause-len g c = so_if_ok c.counted.result c.read-told.result _ _ c.counted.ensures.same (λ v h. h) c.read-told.ensures.len

pub returns-clause-damaged : goal.returns-clause-damaged
returns-clause-damaged g c = if_err c.counted.result _ (λ e is bs none. absurd (cc none))

pub returns-clause-due : goal.returns-clause-due
returns-clause-due g c = if_err c.counted.result _ (λ e is. (λ none. cc none, λ bs none. absurd (cc none)))

pub returns-clause-device : goal.returns-clause-device
returns-clause-device g c = if_err c.counted.result _ (λ e is. tt)

pub returns-clause-same : goal.returns-clause-same
returns-clause-same g c = λ q. refl

pub returns-clause-crash : goal.returns-clause-crash
returns-clause-crash g c = λ q e left. tt

pub returns-clause-can : goal.returns-clause-can
returns-clause-can g c = λ x. tt

pub returns-clause-counted : goal.returns-clause-counted
returns-clause-counted g c = c.counted.ensures.reading _ _ c.read-told.ensures.counted
