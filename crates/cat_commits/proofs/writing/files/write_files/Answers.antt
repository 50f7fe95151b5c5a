use Rattle.cat_base.specs.declared.refusal.Refusal.TheVariants.{Device}
use Rattle.cat_base.specs.declared.refusal.Refusal.{Refusal}
use Rattle.std.proofs.lemmas.Result.{IfOk-from_err}
use Rattle.std.proofs.Common.{◌∙◌, ◌≡◌}
use Rattle.cat_commits.proofs.writing.Writing.{progress_more, others_more, crash_more, counts_after, passed}
use Rattle.cat_commits.proofs.writing.files.write_files.Goals as goal

pub loop-file-preserved : goal.loop-file-preserved
loop-file-preserved g c = record {
  progress = progress_more c.args.files.now c.loop-file.file-index c.file-item.result (g.D.Holder.bytes c.args.device.now) (g.D.Holder.bytes c.loop-file.device) (g.D.Holder.bytes c.write_one.new.device)
      c.requires.apart c.loop-file-test.true c.file-item.is c.loop-file.invariant.progress c.in_ok-write_one.ensures.ok c.in_ok-write_one.ensures.others;
  crash = crash_more c.args.files.now c.loop-file.file-index c.file-item.result (g.D.Holder.may_leave c.args.device.now) (g.D.Holder.may_leave c.loop-file.device) (g.D.Holder.may_leave c.write_one.new.device)
      c.loop-file-test.true c.file-item.is c.loop-file.invariant.crash c.in_ok-write_one.ensures.crash;
  can = λ fails. c.loop-file.invariant.can (c.in_ok-write_one.ensures.fails.can fails);
  count = c.in_ok-write_one.ensures.fails.counted ∙ c.loop-file.invariant.count;
}

pub returns-in_err-write_one-clause-others : goal.returns-in_err-write_one-clause-others
returns-in_err-write_one-clause-others g c =
    others_more c.args.files.now c.loop-file.file-index c.file-item.result (g.D.Holder.bytes c.args.device.now) (g.D.Holder.bytes c.loop-file.device) (g.D.Holder.bytes c.write_one.new.device)
    c.loop-file-test.true c.file-item.is c.loop-file.invariant.progress.others c.in_err-write_one.ensures.others

pub returns-in_err-write_one-clause-crash : goal.returns-in_err-write_one-clause-crash
returns-in_err-write_one-clause-crash g c =
    crash_more c.args.files.now c.loop-file.file-index c.file-item.result (g.D.Holder.may_leave c.args.device.now) (g.D.Holder.may_leave c.loop-file.device) (g.D.Holder.may_leave c.write_one.new.device)
    c.loop-file-test.true c.file-item.is c.loop-file.invariant.crash c.in_err-write_one.ensures.crash

pub returns-in_err-write_one-clause-ok : goal.returns-in_err-write_one-clause-ok
returns-in_err-write_one-clause-ok g c = IfOk-from_err _ _ c.from_residual.ensures.0

pub returns-in_err-write_one-clause-fails : goal.returns-in_err-write_one-clause-fails
returns-in_err-write_one-clause-fails g c =
    record {
      device = passed (λ (e : Refusal). e ≡ Device → g.D.Holder.can_fail c.args.device.now) _ _ c.from_residual.ensures (λ is. c.loop-file.invariant.can (c.in_err-write_one.ensures.fails.device is));
      counted = counts_after (g.D.Holder.fault_count c.args.device.now) (g.D.Holder.fault_count c.loop-file.device) (g.D.Holder.fault_count c.write_one.new.device) _ _ c.from_residual.ensures c.loop-file.invariant.count
          c.in_err-write_one.ensures.fails.counted;
      can = λ fails. c.loop-file.invariant.can (c.in_err-write_one.ensures.fails.can fails);
    }
