use Rattle.std.proofs.Common.{◌≡◌, ℕ, ◌∙◌, subst, inl}
use Rattle.std.specs.Prelude.{All, Any}
use Rattle.cat_base.specs.declared.refusal.Refusal.TheVariants.{Memory}
use Rattle.cat_directory.specs.Devices.{ReadingCount}
use Rattle.cat_directory.specs.declared.name.FileName.{FileName}
use Rattle.cat_ledger_laws.specs.shape.Ties.{ToldFiles}
use Rattle.cat_merge.specs.files.Sources.{IsCutOff, MayReachRange}
use Rattle.cat_merge.proofs.files.Judged.{each_file}
use Rattle.cat_merge.proofs.files.Ranges.{as_one}
use Rattle.cat_merge.proofs.files.sources.append_ranges.Goals as goal

pub returns-in-Ok : goal.returns-in-Ok
returns-in-Ok g c = record {
  others = c.copy_ranges.ensures.others;
  crash = c.copy_ranges.ensures.crash;
  ok = c.in-Ok.ensures.ok;
  damaged = tt;
  due = tt;
  device = tt;
  can = c.copy_ranges.ensures.can;
  counted = c.in-Ok.ensures.counted;
}

pub returns-in-Err-Memory : goal.returns-in-Err-Memory
returns-in-Err-Memory g c =
    let told : ToldFiles = g.D.Holder.bytes c.args.device.now in
    let mid : ToldFiles = g.D.Holder.bytes c.copy_ranges.new.device in
    let same : (q : FileName) → mid q ≡ told q = each_file (λ (q : FileName). mid q ≡ told q) c.args.to (c.in-Err-Memory.ensures.memory c.in-Err-Memory.field-0-is) c.copy_ranges.ensures.others in
    let counted : ReadingCount (g.D.Holder.fault_count c.args.device.now) (g.D.Holder.fault_count c.copy_ranges.new.device) Memory =
    subst (ReadingCount (g.D.Holder.fault_count c.args.device.now) (g.D.Holder.fault_count c.copy_ranges.new.device)) c.in-Err-Memory.field-0-is c.in-Err-Memory.ensures.counted in
    record {
      others = λ q other. c.why_unread.ensures.frame.same q ∙ c.copy_ranges.ensures.others q other;
      crash = λ q other e left. c.copy_ranges.ensures.crash q other e (c.why_unread.ensures.frame.crash q e left);
      ok = tt;
      damaged = λ is. subst (λ (t : ToldFiles). Any (IsCutOff t) c.args.ranges.now) (as_one told mid same) (c.why_unread.ensures.damaged is);
      due = λ is. subst (λ (t : ToldFiles). All (MayReachRange t) c.args.ranges.now) (as_one told mid same) (c.why_unread.ensures.due is);
      device = λ is. inl (c.copy_ranges.ensures.can (c.why_unread.ensures.device is));
      can = λ fails. c.copy_ranges.ensures.can (c.why_unread.ensures.frame.can fails);
      counted = subst (λ (n : ℕ). ReadingCount n (g.D.Holder.fault_count c.why_unread.new.shelf) c.why_unread.result) counted c.why_unread.ensures.counted;
    }
