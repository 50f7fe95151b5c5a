use Rattle.std.proofs.Common.{inl, refl}
use Rattle.cat_callers.proofs.Untold.{if_ok, so_if_err}
use Rattle.cat_callers.proofs.memory.SharedMemoryDirectory.sync.Goals as goal

pub returns-clause-same : goal.returns-clause-same
returns-clause-same g c = λ q. refl

pub returns-clause-crash : goal.returns-clause-crash
returns-clause-crash g c = λ q e left. tt

pub returns-clause-durable : goal.returns-clause-durable
returns-clause-durable g c = if_ok c.counted.result _ (λ x q has now e none left. absurd (cc none))

pub returns-clause-gone : goal.returns-clause-gone
returns-clause-gone g c = if_ok c.counted.result _ (λ x q none. absurd (cc none))

pub returns-clause-absent : goal.returns-clause-absent
returns-clause-absent g c = λ q has none. absurd (cc none)

pub returns-clause-device : goal.returns-clause-device
returns-clause-device g c = so_if_err c.counted.result c.sync-told.result _ _ c.counted.ensures.same (λ e h. (h.0, inl tt)) c.sync-told.ensures.device

pub returns-clause-can : goal.returns-clause-can
returns-clause-can g c = λ x. tt

pub returns-clause-counted : goal.returns-clause-counted
returns-clause-counted g c = c.counted.ensures.writing _ _ c.sync-told.ensures.counted
