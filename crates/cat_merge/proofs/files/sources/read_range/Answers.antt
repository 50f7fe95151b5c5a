use Rattle.std.proofs.Common.{◌≡◌}
use Rattle.cat_base.specs.declared.refusal.Refusal.{Refusal}
use Rattle.cat_base.specs.declared.refusal.Refusal.TheVariants.{Damaged, Device, Memory}
use Rattle.cat_directory.specs.declared.name.FileName.TheVariants as file
use Rattle.cat_merge.specs.files.Sources.{IsCutOff, MayReachRange}
use Rattle.cat_merge.proofs.files.Ranges.{counts_passed, passed, read_told}
use Rattle.cat_merge.proofs.files.sources.read_range.Goals as goal

pub returns-in_err-bytes-clause-damaged : goal.returns-in_err-bytes-clause-damaged
returns-in_err-bytes-clause-damaged g c =
    passed (λ (e : Refusal). e ≡ Damaged → IsCutOff (g.S.Holder.bytes c.args.shelf.now) c.args.range.now) _ _ c.from_residual.ensures c.in_err-bytes.ensures.damaged

pub returns-in_err-bytes-clause-due : goal.returns-in_err-bytes-clause-due
returns-in_err-bytes-clause-due g c =
    passed (λ (e : Refusal). e ≡ Memory → MayReachRange (g.S.Holder.bytes c.args.shelf.now) c.args.range.now) _ _ c.from_residual.ensures c.in_err-bytes.ensures.due

pub returns-in_err-bytes-clause-frame : goal.returns-in_err-bytes-clause-frame
returns-in_err-bytes-clause-frame g c = record { same = c.in_err-bytes.ensures.same; crash = c.in_err-bytes.ensures.crash; can = c.in_err-bytes.ensures.can }

pub returns-in_err-bytes-clause-fails : goal.returns-in_err-bytes-clause-fails
returns-in_err-bytes-clause-fails g c = record {
  device = passed (λ (e : Refusal). e ≡ Device → g.S.Holder.can_fail c.args.shelf.now) _ _ c.from_residual.ensures c.in_err-bytes.ensures.device;
  counted = counts_passed (g.S.Holder.fault_count c.args.shelf.now) (g.S.Holder.fault_count c.read.new.self) _ _ c.from_residual.ensures c.in_err-bytes.ensures.counted;
}

pub returns : goal.returns
returns g c = record {
  ok = λ all.
      read_told (g.S.Holder.bytes c.args.shelf.now (file.Source c.args.range.now.segment)) c.args.range.now.offset c.args.range.now.len c.in_ok-bytes.bytes.items
      (all (file.Source c.args.range.now.segment)) c.in_ok-bytes.ensures.absent c.in_ok-bytes.ensures.ok;
  len = c.in_ok-bytes.ensures.len;
  damaged = tt;
  due = tt;
  frame = record { same = c.in_ok-bytes.ensures.same; crash = c.in_ok-bytes.ensures.crash; can = c.in_ok-bytes.ensures.can };
  fails = record { device = tt; counted = c.in_ok-bytes.ensures.counted };
}
