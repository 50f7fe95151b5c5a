use Rattle.std.proofs.Common.{inl, refl}
use Rattle.cat_callers.proofs.Untold.{if_err, if_ok, so_if_err}
use Rattle.cat_callers.proofs.memory.SharedMemoryDirectory.delete.Goals as goal

pub returns-clause-others : goal.returns-clause-others
returns-clause-others g c = λ q no. refl

pub returns-clause-crash : goal.returns-clause-crash
returns-clause-crash g c = λ q no e left. tt

pub returns-clause-ok : goal.returns-clause-ok
returns-clause-ok g c = if_ok c.counted.result _ (λ x. refl)

pub returns-clause-err : goal.returns-clause-err
returns-clause-err g c = if_err c.counted.result _ (λ e. inl refl)

pub returns-clause-back : goal.returns-clause-back
returns-clause-back g c = λ e left. inl tt

pub returns-clause-device : goal.returns-clause-device
returns-clause-device g c = so_if_err c.counted.result c.delete-told.result _ _ c.counted.ensures.same (λ e h. (h.0, tt)) c.delete-told.ensures.device

pub returns-clause-can : goal.returns-clause-can
returns-clause-can g c = λ x. tt

pub returns-clause-counted : goal.returns-clause-counted
returns-clause-counted g c = c.counted.ensures.writing _ _ c.delete-told.ensures.counted
