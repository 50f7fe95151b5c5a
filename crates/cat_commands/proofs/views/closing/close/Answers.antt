use Rattle.std.proofs.Common.{◌∙◌, ap, refl, sym}
use Rattle.cat_model.specs.Run.{Command}
use Rattle.cat_ledger.specs.Ledgers.{device_in, policy_in, shape_in}
use Rattle.cat_ledger_laws.proofs.lines.HoldAnswers.{closes_answer}
use Rattle.cat_commands.proofs.views.closing.close.Goals as goal

pub returns-clause-answers : goal.returns-clause-answers
returns-clause-answers g c =
    let old = c.args.ledger.now in
    let new = c.let_go.new.self in (
      Command.close c.args.token,
      refl,
      closes_answer (policy_in old) (g.D.Holder.bytes (device_in old)) (g.D.Holder.bytes (device_in new)) (shape_in old) (shape_in new) c.args.session
          c.args.token (sym c.let_go.ensures.had ∙ c.if-not-let_go.false) (c.let_go.ensures.held c.if-not-let_go.false)
          (λ q. ap (λ d. g.D.Holder.bytes d q) c.let_go.ensures.same),
    )
