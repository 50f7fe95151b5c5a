use Rattle.std.proofs.Common.{inl, refl}
use Rattle.cat_callers.proofs.Untold.{if_err, if_ok}
use Rattle.cat_callers.proofs.memory.SharedMemoryDirectory.create.Goals as goal

pub returns-clause-others : goal.returns-clause-others
returns-clause-others g c = λ q no. refl

pub returns-clause-crash : goal.returns-clause-crash
returns-clause-crash g c = λ q no e left. tt

pub returns-clause-torn : goal.returns-clause-torn
returns-clause-torn g c = λ now is e left. inl tt

pub returns-clause-ok : goal.returns-clause-ok
returns-clause-ok g c = if_ok c.counted.result _ (λ x. refl)

pub returns-clause-memory : goal.returns-clause-memory
returns-clause-memory g c = if_err c.counted.result _ (λ e is. refl)

pub returns-clause-unwritten : goal.returns-clause-unwritten
returns-clause-unwritten g c = if_err c.counted.result _ (λ e is f left. tt)

pub returns-clause-device : goal.returns-clause-device
returns-clause-device g c = if_err c.counted.result _ (λ e is. tt)

pub returns-clause-can : goal.returns-clause-can
returns-clause-can g c = λ x. tt

pub returns-clause-counted : goal.returns-clause-counted
returns-clause-counted g c = c.counted.ensures.writing _ _ c.create-told.ensures.counted
