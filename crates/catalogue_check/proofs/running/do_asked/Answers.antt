use Rattle.std.proofs.Common.{◌≡◌, ◌∙◌, ap, map}
use Rattle.std.specs.Prelude.{string_bytes}
use Rattle.catalogue_check.specs.Asked.{asked_of, task_told}
use Rattle.catalogue_check.proofs.running.do_asked.Goals as goal

pub returns-in-Some : goal.returns-in-Some
returns-in-Some g c =
    let same : task_told c.asked_by.result ≡ asked_of (map string_bytes c.in-Some.words.items) =
    c.asked_by.ensures ∙ ap (λ w. asked_of (map string_bytes w)) c.as_slice.ensures.value in rw c.in-Some.is (rw same at c.do_task.ensures)

pub returns-in-None : goal.returns-in-None
returns-in-None g c = rw c.in-None.is c.do_task-in-None.ensures
