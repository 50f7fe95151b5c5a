use Rattle.std.proofs.Common.{refl}
use Rattle.cat_model.specs.Run.{Exchange}
use Rattle.cat_service_tests.specs.plain.Reply.{plain_reply}
use Rattle.cat_service_tests.proofs.plain.catalogue.ModelRuns.{Step-keeps}
use Rattle.cat_service_tests.proofs.plain.catalogue.Plain.step.Goals as goal

pub returns-clause-run : goal.returns-clause-run
returns-clause-run c = λ from past same is_run stands.
    let does = c.answer.ensures.does in
    let e : Exchange = record { line = record { session = c.args.line.now.session; command = does.0 }; reply = plain_reply c.answer.result } in
    let kept = Step-keeps _ from past _ _ e.line e.reply same is_run stands does.2 in
    (e, record { session = refl; command = does.1; reply = refl }, kept.0, kept.1)
