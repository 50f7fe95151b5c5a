use Rattle.std.proofs.Common.{◌+◌, ap, refl, sym}
use Rattle.std.specs.Prelude.{Err, Ok}
use Rattle.cat_base.specs.declared.refusal.Refusal.TheVariants.{Device, Spent}
use Rattle.cat_model.specs.Run.{Command}
use Rattle.cat_items.specs.Reading.{item_of}
use Rattle.cat_ledger.specs.Ledgers.{device_in, policy_in, shape_in}
use Rattle.cat_ledger_laws.proofs.lines.LineAnswers.{puts_answer}
use Rattle.cat_ledger.proofs.Answered.{tells_same}
use Rattle.cat_commands.proofs.ledger.Answered.{err_is, failure_differs, limit_differs, not_memory, put_refused, put_unread}
use Rattle.cat_commands.proofs.ledger.ItemFaults.{is_of_text}
use Rattle.cat_commands.proofs.ledger.Kept.{merge_same, unchanged}
use Rattle.cat_ledger.proofs.Failures.{fails_as, none_fails}
use Rattle.cat_ledger.proofs.Histories.{nothing_goes_on}
use Rattle.cat_commands.proofs.ledger.writing.put.Goals as goal

pub returns-in-Err-clause-answers : goal.returns-in-Err-clause-answers
returns-in-Err-clause-answers g c = λ session.
    let old = c.args.ledger.now in
    let told = g.D.Holder.bytes (device_in old) in
    let s = shape_in old in
    let read = item_of s.schema c.args.text.now in
    (Command.put read, refl, put_unread (policy_in old) told told s s session read c.in-Err.refusal c.in-Err.ensures.err (refl, λ q. refl))

pub returns-in-Ok-put-clause-answers : goal.returns-in-Ok-put-clause-answers
returns-in-Ok-put-clause-answers g c = λ session.
    let old = c.args.ledger.now in
    let new = c.put.new.self in
    let told = g.D.Holder.bytes (device_in old) in
    let told' = g.D.Holder.bytes (device_in new) in
    let s = shape_in old in
    let item = c.in-Ok.item in (
      Command.put (Ok item),
      ap Command.put (sym c.in-Ok.ensures.ok),
      tells_same (policy_in old) told told' s (shape_in new) session (Command.put (Ok item)) c.in-Ok-put.number (s.count + 1)
          c.in-Ok-put.ensures.number
          (puts_answer (policy_in old) told told' s (shape_in new) session item c.in-Ok-put.ensures.left c.in-Ok.ensures.typed c.in-Ok-put.ensures.ok),
    )

pub returns-in-Err-put-clause-answers : goal.returns-in-Err-put-clause-answers
returns-in-Err-put-clause-answers g c = λ session.
    let old = c.args.ledger.now in
    let new = c.put.new.self in
    let item = c.in-Ok.item in (
      Command.put (Ok item),
      ap Command.put (sym c.in-Ok.ensures.ok),
      put_refused (policy_in old) (g.D.Holder.bytes (device_in old)) (g.D.Holder.bytes (device_in new)) (shape_in old) (shape_in new) session
          item c.in-Err-put.refusal (λ wrong. (c.in-Err-put.ensures.kind wrong).0 c.in-Ok.ensures.typed)
          (λ full. let at = c.in-Err-put.ensures.full c.in-Ok.ensures.typed full in (err_is at.0, unchanged g.D.Holder.bytes old new at.1))
          c.in-Err-put.ensures.err c.in-Err-put.ensures.refusal,
    )

pub returns-in-Err-clause-fails : goal.returns-in-Err-clause-fails
returns-in-Err-clause-fails g c = none_fails (device_in c.args.ledger.now) (Err c.in-Err.refusal) (λ is.
    absurd ((is_of_text (shape_in c.args.ledger.now).schema c.args.text.now c.in-Err.refusal (c.in-Err.ensures.err (not_memory Device failure_differs is))).0 is))

pub returns-in-Ok-put-clause-fails : goal.returns-in-Ok-put-clause-fails
returns-in-Ok-put-clause-fails g c = fails_as _ _ (λ P no. no) c.in-Ok-put.ensures.fails

pub returns-in-Err-put-clause-fails : goal.returns-in-Err-put-clause-fails
returns-in-Err-put-clause-fails g c = fails_as _ _ (λ P no. no) c.in-Err-put.ensures.fails

pub returns-in-Err-clause-spent : goal.returns-in-Err-clause-spent
returns-in-Err-clause-spent g c = λ is.
    absurd ((is_of_text (shape_in c.args.ledger.now).schema c.args.text.now c.in-Err.refusal (c.in-Err.ensures.err (not_memory Spent limit_differs is))).1 is)

pub returns-in-Err-clause-goes : goal.returns-in-Err-clause-goes
returns-in-Err-clause-goes g c = nothing_goes_on g.D.Holder.bytes g.D.Holder.may_leave c.args.ledger.now

pub returns-in-Err-clause-stays : goal.returns-in-Err-clause-stays
returns-in-Err-clause-stays g c = merge_same (shape_in c.args.ledger.now)
