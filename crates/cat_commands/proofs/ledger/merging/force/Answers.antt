use Rattle.std.proofs.Common.{subst, sym}
use Rattle.std.specs.Prelude.{Ok}
use Rattle.cat_model.specs.Run.{Answer, Chore, Command}
use Rattle.cat_ledger.specs.upkeep.News.{news_of}
use Rattle.cat_ledger.specs.Ledgers.{device_in, policy_in, shape_in}
use Rattle.cat_ledger_laws.specs.lines.LineLaws.{line_of}
use Rattle.cat_ledger_laws.specs.lines.RunLaws.{AnswersCarried}
use Rattle.cat_ledger_laws.proofs.lines.StopAnswers.{chores_answer}
use Rattle.cat_ledger.proofs.Failures.{fails_as}
use Rattle.cat_commands.proofs.ledger.Answered.{force_refused}
use Rattle.cat_commands.proofs.ledger.merging.force.Goals as goal

pub returns-in-Ok-clause-answers : goal.returns-in-Ok-clause-answers
returns-in-Ok-clause-answers g c =
    let old = c.args.ledger.now in
    let new = c.force.new.self in
    let told = g.D.Holder.bytes (device_in old) in
    let told' = g.D.Holder.bytes (device_in new) in
    subst (λ n. AnswersCarried (policy_in old) told (shape_in old) (line_of 0 (Command.chore Chore.force)) (Ok (Answer.news n)) told' (shape_in new))
    (sym c.news_told.ensures)
    (chores_answer (policy_in old) told told' (shape_in old) (shape_in new) Chore.force (news_of c.in-Ok.news) c.in-Ok.ensures.ok)

pub returns-in-Err-clause-answers : goal.returns-in-Err-clause-answers
returns-in-Err-clause-answers g c =
    let old = c.args.ledger.now in
    let new = c.force.new.self in
    force_refused (policy_in old) (g.D.Holder.bytes (device_in old)) (g.D.Holder.bytes (device_in new)) (shape_in old) (shape_in new)
    c.in-Err.refusal c.in-Err.ensures.err c.in-Err.ensures.refusal

pub returns-in-Ok-clause-fails : goal.returns-in-Ok-clause-fails
returns-in-Ok-clause-fails g c = fails_as _ _ (λ P no. no) c.in-Ok.ensures.fails

pub returns-in-Err-clause-fails : goal.returns-in-Err-clause-fails
returns-in-Err-clause-fails g c = fails_as _ _ (λ P no. no) c.in-Err.ensures.fails

pub returns-in-Err-clause-crash : goal.returns-in-Err-clause-crash
returns-in-Err-clause-crash g c = c.in-Err.ensures.crash

pub returns-in-Err-clause-goes : goal.returns-in-Err-clause-goes
returns-in-Err-clause-goes g c = c.in-Err.ensures.goes

pub returns-in-Err-clause-stays : goal.returns-in-Err-clause-stays
returns-in-Err-clause-stays g c = c.in-Err.ensures.stays

pub returns-in-Err-clause-segments : goal.returns-in-Err-clause-segments
returns-in-Err-clause-segments g c = c.in-Err.ensures.segments

pub returns-in-Err-clause-refusal : goal.returns-in-Err-clause-refusal
returns-in-Err-clause-refusal g c = record { due = c.in-Err.ensures.due; spent = c.in-Err.ensures.spent; left = c.in-Err.ensures.left }

pub returns-in-Ok-clause-crash : goal.returns-in-Ok-clause-crash
returns-in-Ok-clause-crash g c = c.in-Ok.ensures.crash

pub returns-in-Ok-clause-goes : goal.returns-in-Ok-clause-goes
returns-in-Ok-clause-goes g c = c.in-Ok.ensures.goes
