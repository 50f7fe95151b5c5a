use Rattle.std.proofs.Common.{refl}
use Rattle.cat_model.specs.Run.{Chore, Command, News}
use Rattle.cat_ledger.specs.Ledgers.{device_in, policy_in, shape_in}
use Rattle.cat_ledger_laws.proofs.lines.StopAnswers.{chores_answer, stats_tell}
use Rattle.cat_protocol.specs.replies.Reply.{stat_of}
use Rattle.cat_ledger.proofs.Answered.{memory_refused}
use Rattle.cat_commands.proofs.ledger.stats.tell_stat.Goals as goal

pub returns-in-Ok-clause-answers : goal.returns-in-Ok-clause-answers
returns-in-Ok-clause-answers g c =
    let ledger = c.args.ledger.now in
    let told = g.D.Holder.bytes (device_in ledger) in
    let s = shape_in ledger in
    let stat = stat_of c.in-Ok.stat in
    chores_answer (policy_in ledger) told told s s Chore.stat (News.state stat) (stats_tell (policy_in ledger) told told s s stat (refl, λ q. refl))

pub returns-in-Err-clause-answers : goal.returns-in-Err-clause-answers
returns-in-Err-clause-answers g c =
    let ledger = c.args.ledger.now in
    let told = g.D.Holder.bytes (device_in ledger) in
    let s = shape_in ledger in
    memory_refused (policy_in ledger) told told s s 0 (Command.chore Chore.stat) refl (refl, λ q. refl)
