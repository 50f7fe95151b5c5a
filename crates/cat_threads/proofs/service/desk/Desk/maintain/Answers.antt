use Rattle.std.proofs.Common.{sym, subst}
use Rattle.crossbeam_utils.specs.Seq.{cell_view}
use Rattle.cat_commands.specs.cat_ledger.Answering.{AnswersSaid}
use Rattle.cat_commands.specs.cat_protocol.replies.Reply.{reply_of}
use Rattle.cat_threads.specs.service.Chores.{AnswersChore, said_by}
use Rattle.cat_threads.proofs.service.Beside.{by_chore}
use Rattle.cat_threads.proofs.service.Keeping.{chores_share, told_over}
use Rattle.cat_threads.proofs.service.desk.Desk.maintain.Goals as goal

pub invariant_of-self : goal.invariant_of-self
invariant_of-self g c =
    let i = c.self.invariant in
    let a = c.answer-answer in
    let x = a.ensures.answers in
    let bytes = g.D.Holder.bytes in
    let old = c.self.inside.ledger in (
      i.0,
      i.1,
      i.2,
      chores_share bytes old a.new.ledger g.J.Naming.from g.J.Naming.sessions (cell_view c.self.inside.scribe) (reply_of a.result) c.args.chore x i.3,
      by_chore bytes c.self.inside.filters old a.new.ledger a.new.filters 0 x.0 (reply_of a.result) c.segments_are_one.ensures x.2 a.ensures.sets i.4,
    )

pub returns-clause-answered : goal.returns-clause-answered
returns-clause-answered g c =
    let a = c.answer-answer in
    let bytes = g.D.Holder.bytes in
    let old = c.self.inside.ledger in
    let its : AnswersChore bytes c.args.chore old c.of.result a.new.ledger = record {
      same = c.of.ensures.chore;
      answers = subst (λ a. AnswersSaid bytes 0 (said_by c.args.chore) old (reply_of a) c.answer-answer.new.ledger) (sym c.of.ensures.answer) a.ensures.answers;
    } in
    rw (← c.self.view_is)
    (told_over bytes old a.new.ledger g.J.Naming.from g.J.Naming.sessions (cell_view c.self.inside.scribe) c.args.chore c.of.result its c.self.invariant.3)

pub returns-clause-chore : goal.returns-clause-chore
returns-clause-chore g c = c.of.ensures.chore
