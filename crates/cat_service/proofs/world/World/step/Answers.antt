use Rattle.cat_commands.specs.cat_protocol.replies.Reply.{reply_of}
use Rattle.cat_ledger_laws.proofs.lines.Answered.{answers_are_steps}
use Rattle.cat_ledger_laws.proofs.lines.NeededFiles.{promised_files_stand}
use Rattle.cat_ledger_laws.specs.lines.LineLaws.{line_of}
use Rattle.cat_service.specs.Worlds.{device_of, policy_of, shape_of_service}
use Rattle.cat_service.proofs.Outlasted.{newest_outlasts}
use Rattle.cat_service.proofs.world.World.step.Goals as goal

pub returns-clause-run : goal.returns-clause-run
returns-clause-run g c =
    let old = c.args.self.now in
    let new = c.answer-answer.new.self in
    let does = c.answer-answer.ensures.does in (
      does.answers.0,
      does.answers.1,
      answers_are_steps (policy_of old) (g.D.Holder.bytes (device_of old)) (g.D.Holder.bytes (device_of new)) (shape_of_service old) (shape_of_service new)
          (line_of c.args.line.now.session does.answers.0) (reply_of c.answer-answer.result) does.answers.2,
      does.wanting,
      does.answers.2,
    )

pub returns-clause-history : goal.returns-clause-history
returns-clause-history g c = c.answer-answer.ensures.history

pub returns-clause-promised : goal.returns-clause-promised
returns-clause-promised g c from run stands =
    promised_files_stand (g.D.Holder.bytes (device_of c.answer-answer.new.self)) (shape_of_service c.answer-answer.new.self) from run stands

pub returns-clause-outlasts : goal.returns-clause-outlasts
returns-clause-outlasts g c tells from run stands =
    newest_outlasts (g.D.Holder.bytes (device_of c.answer-answer.new.self)) (g.D.Holder.may_leave (device_of c.answer-answer.new.self)) (shape_of_service c.answer-answer.new.self)
    from run (tells (device_of c.answer-answer.new.self)) (c.newest_lasts.ensures.lasts tells) stands

-- what the answer to a line is said to do

pub returns-clause-told : goal.returns-clause-told
returns-clause-told g c = c.answer-answer.ensures.does.told

pub returns-clause-names : goal.returns-clause-names
returns-clause-names g c = c.answer-answer.ensures.does.names

pub returns-clause-cause : goal.returns-clause-cause
returns-clause-cause g c = c.answer-answer.ensures.does.cause

pub returns-clause-sets : goal.returns-clause-sets
returns-clause-sets g c = c.answer-answer.ensures.does.sets

pub returns-clause-numbers : goal.returns-clause-numbers
returns-clause-numbers g c = c.answer-answer.ensures.does.numbers

pub returns-clause-can : goal.returns-clause-can
returns-clause-can g c = c.answer-answer.ensures.does.can

pub returns-clause-schema : goal.returns-clause-schema
returns-clause-schema g c = c.answer-answer.ensures.does.schema

pub returns-clause-policy : goal.returns-clause-policy
returns-clause-policy g c = c.answer-answer.ensures.does.policy
