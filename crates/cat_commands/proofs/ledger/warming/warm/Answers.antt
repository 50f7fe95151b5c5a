use Rattle.std.proofs.Common.{ap, refl, subst, sym}
use Rattle.std.specs.Prelude.{Ok, Err, IsTrue}
use Rattle.cat_base.specs.declared.refusal.Refusal.TheVariants.{Memory}
use Rattle.cat_model.specs.Run.{Answer, Chore, Command, may_tell}
use Rattle.cat_ledger.specs.Ledgers.{device_in, policy_in, shape_in}
use Rattle.cat_ledger_laws.proofs.lines.RefusalAnswers.{foreign_chores_answer}
use Rattle.cat_ledger_laws.proofs.lines.StopAnswers.{chores_answer, warms_tell}
use Rattle.cat_protocol.specs.replies.Reply.{news_in_reply}
use Rattle.cat_ledger.proofs.Answered.{memory_refused}
use Rattle.cat_commands.proofs.ledger.Answered.{at_zero}
use Rattle.cat_commands.proofs.ledger.Warmed.{warms_may_tell}
use Rattle.cat_commands.proofs.ledger.warming.warm.Goals as goal

pub returns-then-session-ne0-clause-answers : goal.returns-then-session-ne0-clause-answers
returns-then-session-ne0-clause-answers g c =
    let ledger = c.args.ledger.now in
    let told = g.D.Holder.bytes (device_in ledger) in
    let s = shape_in ledger in (
      Command.chore Chore.warm,
      refl,
      foreign_chores_answer (policy_in ledger) told told s s c.args.session Chore.warm c.if-session-ne0.true (refl, λ q. refl),
    )

pub returns-in-Ok-clause-answers : goal.returns-in-Ok-clause-answers
returns-in-Ok-clause-answers g c =
    let ledger = c.args.ledger.now in
    let told = g.D.Holder.bytes (device_in ledger) in
    let s = shape_in ledger in
    let news = news_in_reply c.news_told.result in
    let may : IsTrue (may_tell Chore.warm news) = subst (λ n. IsTrue (may_tell Chore.warm n)) (sym c.news_told.ensures) (warms_may_tell c.in-Ok.news) in (
      Command.chore Chore.warm,
      refl,
      at_zero (policy_in ledger) told told s s c.args.session (Command.chore Chore.warm) (Ok (Answer.news news)) c.if-session-ne0.false
          (chores_answer (policy_in ledger) told told s s Chore.warm news (warms_tell (policy_in ledger) told told s s news may (refl, λ q. refl))),
    )

pub returns-in-Err-clause-answers : goal.returns-in-Err-clause-answers
returns-in-Err-clause-answers g c =
    let ledger = c.args.ledger.now in
    let told = g.D.Holder.bytes (device_in ledger) in
    let s = shape_in ledger in (
      Command.chore Chore.warm,
      refl,
      at_zero (policy_in ledger) told told s s c.args.session (Command.chore Chore.warm) (Err Memory) c.if-session-ne0.false
          (memory_refused (policy_in ledger) told told s s 0 (Command.chore Chore.warm) refl (refl, λ q. refl)),
    )

pub returns-in-Ok-clause-told : goal.returns-in-Ok-clause-told
returns-in-Ok-clause-told g c = record { news = c.in-Ok.news; told = ap Answer.news c.news_told.ensures; step = rw c.leaves.ensures at c.in-Ok.ensures.ok }

pub returns-in-Ok-clause-known : goal.returns-in-Ok-clause-known
returns-in-Ok-clause-known g c = rw c.leaves.ensures at c.in-Ok.ensures.known

pub returns-in-Ok-clause-below : goal.returns-in-Ok-clause-below
returns-in-Ok-clause-below g c = rw c.leaves.ensures at c.in-Ok.ensures.below

pub returns-in-Err-clause-known : goal.returns-in-Err-clause-known
returns-in-Err-clause-known g c = rw c.leaves.ensures at c.in-Err.ensures.known

pub returns-in-Err-clause-below : goal.returns-in-Err-clause-below
returns-in-Err-clause-below g c = rw c.leaves.ensures at c.in-Err.ensures.below

pub returns-in-Err-clause-refusal : goal.returns-in-Err-clause-refusal
returns-in-Err-clause-refusal g c = λ zero. (refl, c.in-Err.ensures.err)
