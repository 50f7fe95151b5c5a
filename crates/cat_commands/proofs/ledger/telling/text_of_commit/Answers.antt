use Rattle.std.proofs.Common.{◌∙◌, refl, subst, sym}
use Rattle.std.specs.Prelude.{Ok}
use Rattle.cat_base.specs.declared.refusal.Refusal.TheVariants.{NoCommit}
use Rattle.cat_model.specs.Run.{Answer, Command}
use Rattle.cat_ledger.specs.Ledgers.{device_in, policy_in, shape_in}
use Rattle.cat_ledger_laws.specs.lines.LineLaws.{line_of}
use Rattle.cat_ledger_laws.specs.lines.RunLaws.{AnswersCarried}
use Rattle.cat_ledger_laws.proofs.lines.ReadAnswers.{texts_answer, unkept_texts_answer}
use Rattle.cat_ledger.proofs.Answered.{memory_refused, named}
use Rattle.cat_commands.proofs.ledger.telling.text_of_commit.Goals as goal

pub returns-in-Err-clause-answers : goal.returns-in-Err-clause-answers
returns-in-Err-clause-answers g c = λ session.
    let ledger = c.args.ledger.now in
    let told = g.D.Holder.bytes (device_in ledger) in
    let s = shape_in ledger in
    let none = c.in-Err.ensures.none in (
      Command.text_of_commit c.args.generation,
      refl,
      named (policy_in ledger) told told s s session (Command.text_of_commit c.args.generation) c.in-Err.refusal NoCommit none.0
          (unkept_texts_answer (policy_in ledger) told told s s session c.args.generation none.1 (refl, λ q. refl)),
    )

pub returns-in-Ok-from_str-clause-answers : goal.returns-in-Ok-from_str-clause-answers
returns-in-Ok-from_str-clause-answers g c = λ session.
    let ledger = c.args.ledger.now in
    let told = g.D.Holder.bytes (device_in ledger) in
    let s = shape_in ledger in
    let kept = c.in-Ok.ensures.ok in (
      Command.text_of_commit c.args.generation,
      refl,
      subst (λ text. AnswersCarried (policy_in ledger) told s (line_of session (Command.text_of_commit c.args.generation)) (Ok (Answer.commit_text text)) told s)
          (sym (c.in-Ok-from_str.ensures.ok ∙ kept.2))
          (texts_answer (policy_in ledger) told told s s session c.args.generation kept.0 kept.1 (refl, λ q. refl)),
    )

pub returns-in-Err-from_str-clause-answers : goal.returns-in-Err-from_str-clause-answers
returns-in-Err-from_str-clause-answers g c = λ session.
    let ledger = c.args.ledger.now in
    let told = g.D.Holder.bytes (device_in ledger) in
    let s = shape_in ledger in (
      Command.text_of_commit c.args.generation,
      refl,
      memory_refused (policy_in ledger) told told s s session (Command.text_of_commit c.args.generation) refl (refl, λ q. refl),
    )
