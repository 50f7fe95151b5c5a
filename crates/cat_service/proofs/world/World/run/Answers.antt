use Rattle.std.proofs.Common.{[], map, ap, sym, ◌∙◌, refl, subst, arith}
use Rattle.std.proofs.lemmas.List.{take_all}
use Rattle.cat_commands.specs.cat_protocol.declared.lines.line.Line.{Line}
use Rattle.cat_commands.specs.cat_protocol.declared.lines.command.Command.TheVariants.{NoForm}
use Rattle.cat_ledger_laws.proofs.lines.NeededFiles.{promised_files_stand}
use Rattle.cat_service.specs.Histories.{RunsHistory}
use Rattle.cat_service.specs.Running.{RunsLines}
use Rattle.cat_service.specs.Worlds.{device_of, shape_of_service}
use Rattle.cat_service.proofs.Histories.{none_spoken, one_spoken}
use Rattle.cat_service.proofs.Ran.{maps_more, none_runs, one_more}
use Rattle.cat_service.proofs.world.World.run.Goals as goal

pub loop-line-init : goal.loop-line-init
loop-line-init g c = record {
  answered = c.in_ok-replies.ensures.len;
  room = omega (arith, c.in_ok-replies.ensures.exact);
  sessions = ap (map (λ r. r.session)) c.in_ok-replies.ensures.items;
  schema = refl;
  policy = refl;
  can = λ x. x;
  runs = subst (λ rs. RunsLines g.D.Holder.bytes c.args.self.now [] rs c.args.self.now) (sym c.in_ok-replies.ensures.items) (none_runs g.D.Holder.bytes c.args.self.now);
  spoken =
      subst (λ rs. RunsHistory g.D.Holder.bytes g.D.Holder.can_fail g.D.Holder.fault_count g.D.Holder.may_leave c.args.self.now [] rs c.args.self.now) (sym c.in_ok-replies.ensures.items)
      (none_spoken g.D.Holder.bytes g.D.Holder.may_leave g.D.Holder.can_fail g.D.Holder.fault_count c.args.self.now);
}

no_line : Line
no_line = record { session = 0; command = NoForm }

pub loop-line-preserved : goal.loop-line-preserved
unfolding no_line
loop-line-preserved g c = record {
  answered = omega (arith, c.in-Ok.ensures.len, c.loop-line.invariant.answered);
  room = omega (arith, c.in-Ok.ensures.capacity, c.loop-line.invariant.room);
  sessions = rw c.in-Ok.ensures.items (maps_more (λ r. r.session) (λ k. k.session) c.args.lines.now c.loop-line.line-index no_line c.loop-line.replies.items c.step.result c.loop-line-test.true c.loop-line.invariant.sessions c.step.ensures.session);
  schema = c.step.ensures.schema ∙ c.loop-line.invariant.schema;
  policy = c.step.ensures.policy ∙ c.loop-line.invariant.policy;
  can = λ x. c.loop-line.invariant.can (c.step.ensures.can x);
  runs = rw c.in-Ok.ensures.items (one_more g.D.Holder.bytes c.args.self.now c.loop-line.self c.step.new.self c.args.lines.now c.loop-line.line-index no_line c.loop-line.replies.items c.step.result c.loop-line-test.true c.loop-line.invariant.schema c.loop-line.invariant.runs c.step.ensures.run);
  spoken = rw c.in-Ok.ensures.items (one_spoken g.D.Holder.bytes g.D.Holder.may_leave g.D.Holder.can_fail g.D.Holder.fault_count c.args.self.now c.loop-line.self c.step.new.self c.args.lines.now c.loop-line.line-index no_line c.loop-line.replies.items c.step.result c.loop-line-test.true c.loop-line.invariant.spoken c.step.ensures.history c.step.ensures.cause);
}

pub returns-clause-sessions : goal.returns-clause-sessions
returns-clause-sessions g c = c.loop-line.invariant.sessions ∙ ap (map (λ k. k.session)) (take_all _ _ c.loop-line-test.false)

pub returns-clause-run : goal.returns-clause-run
returns-clause-run g c =
    subst (λ ls. RunsLines g.D.Holder.bytes c.args.self.now ls c.loop-line.replies.items c.loop-line.self) (take_all _ _ c.loop-line-test.false)
    c.loop-line.invariant.runs

pub returns-clause-history : goal.returns-clause-history
returns-clause-history g c =
    subst (λ ls. RunsHistory g.D.Holder.bytes g.D.Holder.can_fail g.D.Holder.fault_count g.D.Holder.may_leave c.args.self.now ls c.loop-line.replies.items c.loop-line.self)
    (take_all _ _ c.loop-line-test.false) c.loop-line.invariant.spoken

pub returns-clause-promised : goal.returns-clause-promised
returns-clause-promised g c from run stands =
    promised_files_stand (g.D.Holder.bytes (device_of c.loop-line.self)) (shape_of_service c.loop-line.self) from run stands

pub returns-in_err-replies-clause-promised : goal.returns-in_err-replies-clause-promised
returns-in_err-replies-clause-promised g c from run stands =
    promised_files_stand (g.D.Holder.bytes (device_of c.args.self.now)) (shape_of_service c.args.self.now) from run stands
