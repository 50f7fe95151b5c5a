use Rattle.std.proofs.Common.{◌≡◌, Some, None, inl, inr, map}
use Rattle.std.specs.Prelude.{◌⊎◌, false, true}
use Rattle.std.proofs.lemmas.Result.{IfOk-from_err}
use Rattle.cat_base.specs.declared.refusal.Refusal.{Refusal}
use Rattle.cat_base.specs.declared.refusal.Refusal.TheVariants.{Device}
use Rattle.cat_directory.specs.declared.name.FileName.{FileName}
use Rattle.cat_directory.specs.Names.{name_of}
use Rattle.cat_ledger_laws.specs.model.Users.{has_name}
use Rattle.cat_commits.specs.writing.NewFiles.{names_of}
use Rattle.cat_commits.proofs.writing.Writing.{counts_passed, passed, settled, named, absent_before}
use Rattle.cat_commits.proofs.writing.files.write_synced.Goals as goal

pub returns-clause-lasts : goal.returns-clause-lasts
returns-clause-lasts g c =
    settled c.args.unsynced.now (g.D.Holder.bytes c.write_files.new.device) (g.D.Holder.bytes c.sync.new.self) (g.D.Holder.may_leave c.sync.new.self) c.in_ok-sync.ensures.same c.in_ok-sync.ensures.durable

pub returns-in_err-sync-clause-device : goal.returns-in_err-sync-clause-device
returns-in_err-sync-clause-device g c =
    passed (λ (e : Refusal). e ≡ Device → g.D.Holder.can_fail c.args.device.now
    ⊎ ((q : FileName) × (has_name (name_of q) (map name_of c.args.unsynced.now) ≡ true) × (has_name (name_of q) (names_of c.args.files.now) ≡ false)
    × (g.D.Holder.bytes c.args.device.now q ≡ Some None))) _ _ c.from_residual-in_err-sync.ensures
    (λ is. elim c.in_err-sync.ensures.device.1 [
      | inl f ↦ inl (c.in_ok-write_files.ensures.fails.can f)
      | inr w ↦
          let before = absent_before c.args.files.now (g.D.Holder.bytes c.args.device.now) (g.D.Holder.bytes c.write_files.new.device) w.0
          c.in_ok-write_files.ensures.others c.in_ok-write_files.ensures.ok w.2 in
          inr (w.0, named c.args.unsynced.now w.0 w.1, before.0, before.1)
    ])

pub returns-in_err-write_files-clause-others : goal.returns-in_err-write_files-clause-others
returns-in_err-write_files-clause-others g c = c.in_err-write_files.ensures.others

pub returns-in_err-write_files-clause-crash : goal.returns-in_err-write_files-clause-crash
returns-in_err-write_files-clause-crash g c = c.in_err-write_files.ensures.crash

pub returns-in_err-write_files-clause-ok : goal.returns-in_err-write_files-clause-ok
returns-in_err-write_files-clause-ok g c = IfOk-from_err _ _ c.from_residual.ensures.0

pub returns-in_err-write_files-clause-lasts : goal.returns-in_err-write_files-clause-lasts
returns-in_err-write_files-clause-lasts g c = IfOk-from_err _ _ c.from_residual.ensures.0

pub returns-in_err-write_files-clause-device : goal.returns-in_err-write_files-clause-device
returns-in_err-write_files-clause-device g c =
    passed (λ (e : Refusal). e ≡ Device → g.D.Holder.can_fail c.args.device.now
    ⊎ ((q : FileName) × (has_name (name_of q) (map name_of c.args.unsynced.now) ≡ true) × (has_name (name_of q) (names_of c.args.files.now) ≡ false)
    × (g.D.Holder.bytes c.args.device.now q ≡ Some None))) _ _ c.from_residual.ensures (λ is. inl (c.in_err-write_files.ensures.fails.device is))

pub returns-in_err-write_files-clause-can : goal.returns-in_err-write_files-clause-can
returns-in_err-write_files-clause-can g c = c.in_err-write_files.ensures.fails.can

pub returns-in_err-write_files-clause-counted : goal.returns-in_err-write_files-clause-counted
returns-in_err-write_files-clause-counted g c =
    counts_passed (g.D.Holder.fault_count c.args.device.now) (g.D.Holder.fault_count c.write_files.new.device) _ _ c.from_residual.ensures c.in_err-write_files.ensures.fails.counted
