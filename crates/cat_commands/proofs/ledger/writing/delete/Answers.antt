use Rattle.std.proofs.Common.{◌≡◌, ◌+◌, ◌∙◌, ap, sym}
use Rattle.std.specs.Prelude.{Ok, Err, cond}
use Rattle.cat_base.specs.declared.refusal.Refusal.TheVariants.{Id}
use Rattle.cat_model.specs.Heard.{id_of}
use Rattle.cat_model.specs.Run.{Command}
use Rattle.cat_ledger.specs.Ledgers.{device_in, policy_in, shape_in}
use Rattle.cat_ledger_laws.proofs.lines.LineAnswers.{deletes_answer}
use Rattle.cat_ledger.proofs.Answered.{tells_same}
use Rattle.cat_commands.proofs.ledger.Answered.{delete_refused}
use Rattle.cat_commands.proofs.ledger.Kept.{unchanged}
use Rattle.cat_ledger.proofs.Histories.{nothing_goes_on}
use Rattle.cat_commands.proofs.ledger.writing.delete.Goals as goal

pub returns-in-Ok-clause-answers : goal.returns-in-Ok-clause-answers
returns-in-Ok-clause-answers g c = λ session.
    let old = c.args.ledger.now in
    let new = c.delete.new.self in
    let told = g.D.Holder.bytes (device_in old) in
    let told' = g.D.Holder.bytes (device_in new) in
    let s = shape_in old in
    let right : id_of c.args.id.now ≡ Ok c.args.id.now = ap (λ b. cond b (Ok c.args.id.now) (Err Id)) (sym c.id_ok.ensures ∙ c.if-not-id_ok.false) in (
      Command.delete (Ok c.args.id.now),
      ap Command.delete (sym right),
      tells_same (policy_in old) told told' s (shape_in new) session (Command.delete (Ok c.args.id.now)) c.in-Ok.number (s.count + 1)
          c.in-Ok.ensures.number
          (deletes_answer (policy_in old) told told' s (shape_in new) session c.args.id.now c.in-Ok.ensures.left c.in-Ok.ensures.ok),
    )

pub returns-in-Err-clause-answers : goal.returns-in-Err-clause-answers
returns-in-Err-clause-answers g c = λ session.
    let old = c.args.ledger.now in
    let new = c.delete.new.self in
    let right : id_of c.args.id.now ≡ Ok c.args.id.now = ap (λ b. cond b (Ok c.args.id.now) (Err Id)) (sym c.id_ok.ensures ∙ c.if-not-id_ok.false) in (
      Command.delete (Ok c.args.id.now),
      ap Command.delete (sym right),
      delete_refused (policy_in old) (g.D.Holder.bytes (device_in old)) (g.D.Holder.bytes (device_in new)) (shape_in old) (shape_in new) session
          c.args.id.now c.in-Err.refusal c.in-Err.ensures.spent (unchanged g.D.Holder.bytes old new c.in-Err.ensures.err) c.in-Err.ensures.refusal,
    )

pub returns-then-not-id_ok-clause-goes : goal.returns-then-not-id_ok-clause-goes
returns-then-not-id_ok-clause-goes g c = nothing_goes_on g.D.Holder.bytes g.D.Holder.may_leave c.args.ledger.now
