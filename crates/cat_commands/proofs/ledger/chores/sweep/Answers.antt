use Rattle.std.proofs.Common.{ap}
use Rattle.cat_model.specs.Run.{Answer, Chore, News}
use Rattle.cat_ledger.specs.Ledgers.{device_in, policy_in, shape_in}
use Rattle.cat_ledger_laws.proofs.lines.StopAnswers.{chores_answer, sweeps_tell}
use Rattle.cat_ledger.proofs.Failures.{fails_as}
use Rattle.cat_commands.proofs.ledger.Answered.{sweep_refused}
use Rattle.cat_commands.proofs.ledger.Swept.{swept_so}
use Rattle.cat_commands.proofs.ledger.chores.sweep.Goals as goal

pub returns-in-Err-clause-answers : goal.returns-in-Err-clause-answers
returns-in-Err-clause-answers g c =
    let old = c.args.ledger.now in
    let new = c.sweep.new.self in
    sweep_refused (policy_in old) (g.D.Holder.bytes (device_in old)) (g.D.Holder.bytes (device_in new)) (shape_in old) (shape_in new)
    c.in-Err.refusal c.in-Err.ensures.ok c.in-Err.ensures.refusal

pub returns-in-Ok-clause-answers : goal.returns-in-Ok-clause-answers
returns-in-Ok-clause-answers g c =
    let old = c.args.ledger.now in
    let new = c.sweep.new.self in
    let told = g.D.Holder.bytes (device_in old) in
    let told' = g.D.Holder.bytes (device_in new) in
    chores_answer (policy_in old) told told' (shape_in old) (shape_in new) Chore.sweep (News.swept c.in-Ok.files)
    (sweeps_tell (policy_in old) told told' (shape_in old) (shape_in new) c.in-Ok.files c.in-Ok.ensures.ok)

pub returns-in-Ok-clause-files : goal.returns-in-Ok-clause-files
returns-in-Ok-clause-files g c = c.in-Ok.ensures.files

pub returns-in-Err-clause-files : goal.returns-in-Err-clause-files
returns-in-Err-clause-files g c = c.in-Err.ensures.files

pub returns-in-Ok-clause-swept : goal.returns-in-Ok-clause-swept
returns-in-Ok-clause-swept g c = λ carried.
    swept_so g.D.Holder.bytes g.D.Holder.may_leave c.args.ledger.now c.sweep.new.self c.in-Ok.ensures.ok c.in-Ok.ensures.files c.in-Ok.ensures.none c.in-Ok.ensures.done carried

pub returns-in-Ok-clause-fails : goal.returns-in-Ok-clause-fails
returns-in-Ok-clause-fails g c = fails_as _ _ (λ P no. no) c.in-Ok.ensures.fails

pub returns-in-Err-clause-fails : goal.returns-in-Err-clause-fails
returns-in-Err-clause-fails g c = fails_as _ _ (λ P no. no) c.in-Err.ensures.fails

pub returns-in-Ok-clause-making : goal.returns-in-Ok-clause-making
returns-in-Ok-clause-making g c = c.in-Ok.ensures.making

pub returns-in-Err-clause-making : goal.returns-in-Err-clause-making
returns-in-Err-clause-making g c = c.in-Err.ensures.making

pub returns-in-Ok-clause-told : goal.returns-in-Ok-clause-told
returns-in-Ok-clause-told g c = ap (λ n. Answer.news (News.swept n)) c.in-Ok.ensures.count

pub returns-in-Err-clause-told : goal.returns-in-Err-clause-told
returns-in-Err-clause-told g c = tt

pub returns-in-Err-clause-swept : goal.returns-in-Err-clause-swept
returns-in-Err-clause-swept g c = λ carried. tt

pub returns-in-Err-clause-refusal : goal.returns-in-Err-clause-refusal
returns-in-Err-clause-refusal g c = c.in-Err.ensures.refusal

pub returns-in-Err-clause-crash : goal.returns-in-Err-clause-crash
returns-in-Err-clause-crash g c = λ q used new merge. c.in-Err.ensures.crash q used

pub returns-in-Err-clause-goes : goal.returns-in-Err-clause-goes
returns-in-Err-clause-goes g c = c.in-Err.ensures.goes

pub returns-in-Ok-clause-goes : goal.returns-in-Ok-clause-goes
returns-in-Ok-clause-goes g c = c.in-Ok.ensures.goes

pub returns-in-Ok-clause-crash : goal.returns-in-Ok-clause-crash
returns-in-Ok-clause-crash g c = λ q used new merge. c.in-Ok.ensures.crash q used
