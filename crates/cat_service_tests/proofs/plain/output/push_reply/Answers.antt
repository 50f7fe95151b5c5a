use Rattle.std.proofs.Common.{◌≡◌, ◌∙◌, ◌∷◌, ◌++◌, codes, subst}
use Rattle.std.specs.Prelude.{OnOk}
use Rattle.cat_model.specs.Lines.{line_text, refusal_words}
use Rattle.cat_model.specs.Text.{Text}
use Rattle.cat_service_tests.proofs.plain.output.push_reply.Goals as goal

pub returns-in-Ok : goal.returns-in-Ok
returns-in-Ok c = rw c.in-Ok.is (c.push_answer.ensures c.args.reply.now.session (c.as_bytes-session.ensures.value ∙ c.format.ensures.text))

pub returns-in-Err : goal.returns-in-Err
returns-in-Err c =
    rw c.in-Err.is
    (subst (λ (s : Text). OnOk c.push_refusal.result (c.push_refusal.new.to.items ≡ c.args.to.now.items ++ line_text (s ∷ codes "NO" ∷ refusal_words c.in-Err.refusal)))
    (c.as_bytes-session.ensures.value ∙ c.format.ensures.text) c.push_refusal.ensures)
