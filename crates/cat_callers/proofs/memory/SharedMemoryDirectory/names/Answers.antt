use Rattle.std.proofs.Common.{refl}
use Rattle.cat_callers.proofs.Untold.{if_err, so_if_ok}
use Rattle.cat_callers.proofs.memory.SharedMemoryDirectory.names.Goals as goal

pub returns-clause-ok : goal.returns-clause-ok
returns-clause-ok g c = so_if_ok c.counted.result c.names-told.result _ _ c.counted.ensures.same (λ names l. record { rising = l.rising; formed = l.formed; there = λ n has none. cc none; complete = λ n bytes none. absurd (cc none) }) c.names-told.ensures.ok

pub returns-clause-same : goal.returns-clause-same
returns-clause-same g c = λ q. refl

pub returns-clause-crash : goal.returns-clause-crash
returns-clause-crash g c = λ q e left. tt

pub returns-clause-device : goal.returns-clause-device
returns-clause-device g c = if_err c.counted.result _ (λ e is. tt)

pub returns-clause-can : goal.returns-clause-can
returns-clause-can g c = λ x. tt

pub returns-clause-counted : goal.returns-clause-counted
returns-clause-counted g c = c.counted.ensures.writing _ _ c.names-told.ensures.counted
