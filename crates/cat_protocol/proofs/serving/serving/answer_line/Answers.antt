use Rattle.std.proofs.Common.{sym, refl}
use Rattle.cat_model.specs.Served.{outcome_text}
use Rattle.cat_protocol.specs.serving.Serving.{Says}
use Rattle.cat_protocol.specs.declared.serving.machine.Stage.TheVariants.{Open}
use Rattle.cat_protocol.proofs.serving.Steps.{serves_sent, serves_with}
use Rattle.cat_protocol.proofs.serving.serving.answer_line.Goals as goal

pub returns : goal.returns
returns g c =
    let m = g.M.Machine in
    let told = c.answer.ensures in
    rw (sym c.if_short.ensures)
    (serves_with (sym c.as_ended.ensures)
    (serves_sent (Says m.opens m.step m.token) (Open c.args.machine.now) _ (outcome_text told.0) c.answer.new.self _ _ c.answer.result (told.0, told.1, refl) told.2))
