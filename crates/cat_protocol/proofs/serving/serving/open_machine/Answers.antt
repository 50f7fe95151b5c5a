use Rattle.std.proofs.Common.{sym, refl}
use Rattle.cat_model.specs.Served.{refused_text}
use Rattle.cat_protocol.specs.serving.Machine.{opened_text}
use Rattle.cat_protocol.specs.serving.Serving.{Says}
use Rattle.cat_protocol.specs.declared.serving.machine.Stage.TheVariants.{Waiting}
use Rattle.cat_protocol.proofs.serving.Steps.{serves_sent, serves_refused, serves_with}
use Rattle.cat_protocol.proofs.serving.serving.open_machine.Goals as goal

pub returns-in-Ok : goal.returns-in-Ok
returns-in-Ok g c =
    let m = g.M.Machine in
    let said = c.say_opened-ended.ensures in
    serves_with (sym said.2)
    (serves_sent (Says m.opens m.step m.token) (Waiting c.args.seed) _ (opened_text (m.token c.in-Ok.machine)) c.in-Ok.machine _ _ said.0 (c.in-Ok.ensures, refl) said.1)

pub returns-in-Err : goal.returns-in-Err
returns-in-Err g c =
    let m = g.M.Machine in
    serves_refused (Says m.opens m.step m.token) (Waiting c.args.seed) _ (refused_text c.in-Err.field-0.refusal) c.in-Err.field-0.seed _ _ c.refuse-fault.result
    (c.in-Err.field-0.refusal, c.in-Err.ensures, refl) c.refuse-fault.ensures
