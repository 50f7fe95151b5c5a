use Rattle.std.proofs.Common.{◌≡◌, ◌≢◌, ℕ, List, Some, subst, sym}
use Rattle.cat_base.specs.declared.refusal.Refusal.{Refusal}
use Rattle.cat_base.specs.declared.refusal.Refusal.TheVariants.{Device}
use Rattle.cat_directory.specs.declared.name.FileName.{FileName}
use Rattle.cat_directory.specs.declared.name.FileName.TheVariants as file
use Rattle.cat_directory.specs.Devices.{NoMore}
use Rattle.cat_ledger_laws.specs.shape.Ties.{IsTold}
use Rattle.cat_model.specs.Layout.{SpellsSegment}
use Rattle.cat_merge.proofs.files.Ranges.{passed, writing_counted, written_told}
use Rattle.cat_merge.proofs.files.sealing.write_segment.Goals as goal

pub returns-in_err-write_file-clause-others : goal.returns-in_err-write_file-clause-others
returns-in_err-write_file-clause-others g c =
    subst (λ (n : ℕ). (q : FileName) → q ≢ file.Segment n → g.D.Holder.bytes c.write_file.new.device q ≡ g.D.Holder.bytes c.args.device.now q) c.number.ensures c.write_file.ensures.others

pub returns-in_err-write_file-clause-crash : goal.returns-in_err-write_file-clause-crash
returns-in_err-write_file-clause-crash g c =
    subst (λ (n : ℕ). (q : FileName) → q ≢ file.Segment n → NoMore (g.D.Holder.may_leave c.args.device.now q) (g.D.Holder.may_leave c.write_file.new.device q)) c.number.ensures c.write_file.ensures.crash

pub returns-in_err-write_file-clause-fails : goal.returns-in_err-write_file-clause-fails
returns-in_err-write_file-clause-fails g c = record {
  device = passed (λ (e : Refusal). e ≡ Device → g.D.Holder.can_fail c.args.device.now) _ _ c.from_residual-in_err-write_file.ensures c.in_err-write_file.ensures.device;
  counted = writing_counted (g.D.Holder.fault_count c.args.device.now) (g.D.Holder.fault_count c.write_file.new.device) _ _ c.from_residual-in_err-write_file.ensures c.in_err-write_file.ensures.counted;
  can = c.write_file.ensures.can;
}

pub returns-clause-others : goal.returns-clause-others
returns-clause-others g c =
    subst (λ (n : ℕ). (q : FileName) → q ≢ file.Segment n → g.D.Holder.bytes c.write_file.new.device q ≡ g.D.Holder.bytes c.args.device.now q) c.number.ensures c.write_file.ensures.others

pub returns-clause-crash : goal.returns-clause-crash
returns-clause-crash g c =
    subst (λ (n : ℕ). (q : FileName) → q ≢ file.Segment n → NoMore (g.D.Holder.may_leave c.args.device.now q) (g.D.Holder.may_leave c.write_file.new.device q)) c.number.ensures c.write_file.ensures.crash

pub returns-clause-ok : goal.returns-clause-ok
returns-clause-ok g c =
    let bytes : List ℕ = c.deref.result.now in (
      bytes,
      subst (λ (n : ℕ). IsTold (g.D.Holder.bytes c.write_file.new.device (file.Segment n)) (Some bytes)) c.number.ensures
          (written_told (g.D.Holder.bytes c.args.device.now (file.Segment c.number.result)) (g.D.Holder.bytes c.write_file.new.device (file.Segment c.number.result)) bytes c.in_ok-write_file.ensures.ok),
      subst (λ (b : List ℕ). SpellsSegment b c.args.segment.now) (sym c.deref.ensures.value) c.in_ok-bytes.ensures.ok,
    )

pub returns-clause-fails : goal.returns-clause-fails
returns-clause-fails g c = record { device = tt; counted = c.in_ok-write_file.ensures.counted; can = c.write_file.ensures.can }
