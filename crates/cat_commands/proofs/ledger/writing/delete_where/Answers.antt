use Rattle.std.proofs.Common.{◌≡◌, ◌+◌, refl}
use Rattle.std.specs.Prelude.{Err, Ok, Result}
use Rattle.cat_base.specs.declared.refusal.Refusal.{Refusal}
use Rattle.cat_base.specs.declared.refusal.Refusal.TheVariants.{Query as NoQuery}
use Rattle.cat_cached_sets.specs.cat_query.declared.query.Query.{Query}
use Rattle.cat_model.specs.Heard.{IsQueryOf}
use Rattle.cat_model.specs.Run.{Command}
use Rattle.cat_cached_sets.specs.cat_query.View.{query_of}
use Rattle.cat_ledger.specs.Ledgers.{device_in, policy_in, shape_in}
use Rattle.cat_ledger_laws.proofs.lines.LineAnswers.{query_deletes_answer}
use Rattle.cat_ledger.proofs.Answered.{tells_same}
use Rattle.cat_commands.proofs.ledger.Answered.{query_delete_refused, query_unread}
use Rattle.cat_commands.proofs.ledger.Kept.{unchanged}
use Rattle.cat_ledger.proofs.Histories.{nothing_goes_on}
use Rattle.cat_commands.proofs.ledger.writing.delete_where.Goals as goal

pub returns-in-Err-clause-answers : goal.returns-in-Err-clause-answers
returns-in-Err-clause-answers g c = λ session.
    let old = c.args.ledger.now in
    query_unread (policy_in old) (g.D.Holder.bytes (device_in old)) (g.D.Holder.bytes (device_in old)) (shape_in old) (shape_in old) session
    c.args.text.now c.in-Err.refusal c.in-Err.ensures.err c.read_query.ensures.judged (refl, λ q. refl)

pub returns-in-Ok-delete_where-clause-answers : goal.returns-in-Ok-delete_where-clause-answers
returns-in-Ok-delete_where-clause-answers g c = λ session.
    let old = c.args.ledger.now in
    let new = c.delete_where.new.self in
    let told = g.D.Holder.bytes (device_in old) in
    let told' = g.D.Holder.bytes (device_in new) in
    let s = shape_in old in
    let q = query_of c.in-Ok.query in (
      Command.delete_where (Ok q),
      (Ok q, IsQueryOf.spelled q c.in-Ok.ensures.ok, refl),
      tells_same (policy_in old) told told' s (shape_in new) session (Command.delete_where (Ok q)) c.in-Ok-delete_where.number (s.count + 1)
          c.in-Ok-delete_where.ensures.number
          (query_deletes_answer (policy_in old) told told' s (shape_in new) session q c.in-Ok-delete_where.ensures.left c.in-Ok-delete_where.ensures.ok),
    )

pub returns-clause-answers : goal.returns-clause-answers
returns-clause-answers g c = λ session.
    let old = c.args.ledger.now in
    let new = c.delete_where.new.self in
    let q = query_of c.in-Ok.query in (
      Command.delete_where (Ok q),
      (Ok q, IsQueryOf.spelled q c.in-Ok.ensures.ok, refl),
      query_delete_refused (policy_in old) (g.D.Holder.bytes (device_in old)) (g.D.Holder.bytes (device_in new)) (shape_in old) (shape_in new)
          session q c.in-Err-delete_where.refusal c.in-Err-delete_where.ensures.spent
          (unchanged g.D.Holder.bytes old new c.in-Err-delete_where.ensures.err) c.in-Err-delete_where.ensures.refusal,
    )

pub returns-in-Err-clause-goes : goal.returns-in-Err-clause-goes
returns-in-Err-clause-goes g c = nothing_goes_on g.D.Holder.bytes g.D.Holder.may_leave c.args.ledger.now

pub returns-in-Err-clause-due : goal.returns-in-Err-clause-due
returns-in-Err-clause-due g c = λ place fault.
    let told : ◌≡◌ {A = Result Query Refusal} (Err c.in-Err.refusal) (Err (NoQuery place)) = c.in-Err.ensures.due place fault in cc
