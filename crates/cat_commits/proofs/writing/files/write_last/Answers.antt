use Rattle.std.proofs.Common.{◌≡◌, ◌≢◌, subst, sym}
use Rattle.cat_base.specs.declared.refusal.Refusal.{Refusal}
use Rattle.cat_base.specs.declared.refusal.Refusal.TheVariants.{Device}
use Rattle.cat_directory.specs.declared.name.FileName.{FileName}
use Rattle.cat_directory.specs.Devices.{IsSettled, NoMore, file_written, told_after}
use Rattle.cat_commits.specs.writing.NewFiles.{IsWritten, NewBytes, OnlyTorn}
use Rattle.cat_commits.proofs.writing.Writing.{passed, counts_passed}
use Rattle.cat_commits.proofs.writing.files.write_last.Goals as goal

pub returns-in_err-write_lasting-clause-torn : goal.returns-in_err-write_lasting-clause-torn
returns-in_err-write_lasting-clause-torn g c =
    let told = g.D.Holder.bytes c.args.device.now in
    let left = g.D.Holder.may_leave c.args.device.now in
    let left' = g.D.Holder.may_leave c.write_lasting.new.device in
    subst (λ (f : NewBytes). OnlyTorn f.name f.bytes told left left') c.file.view_is
    (subst (λ bytes. OnlyTorn c.file.inside.name bytes told left left') c.deref.ensures.value c.write_lasting.ensures.torn)

pub returns-clause-torn : goal.returns-clause-torn
returns-clause-torn g c =
    let told = g.D.Holder.bytes c.args.device.now in
    let left = g.D.Holder.may_leave c.args.device.now in
    let left' = g.D.Holder.may_leave c.write_lasting.new.device in
    subst (λ (f : NewBytes). OnlyTorn f.name f.bytes told left left') c.file.view_is
    (subst (λ bytes. OnlyTorn c.file.inside.name bytes told left left') c.deref.ensures.value c.write_lasting.ensures.torn)

pub returns-in_err-write_lasting-clause-others : goal.returns-in_err-write_lasting-clause-others
returns-in_err-write_lasting-clause-others g c =
    subst (λ (f : NewBytes). (q : FileName) → q ≢ f.name → g.D.Holder.bytes c.write_lasting.new.device q ≡ g.D.Holder.bytes c.args.device.now q) c.file.view_is c.write_lasting.ensures.others

pub returns-in_err-write_lasting-clause-crash : goal.returns-in_err-write_lasting-clause-crash
returns-in_err-write_lasting-clause-crash g c =
    subst (λ (f : NewBytes). (q : FileName) → q ≢ f.name → NoMore (g.D.Holder.may_leave c.args.device.now q) (g.D.Holder.may_leave c.write_lasting.new.device q)) c.file.view_is c.write_lasting.ensures.crash

pub returns-in_err-write_lasting-clause-fails : goal.returns-in_err-write_lasting-clause-fails
returns-in_err-write_lasting-clause-fails g c =
    record {
      device = passed (λ (e : Refusal). e ≡ Device → g.D.Holder.can_fail c.args.device.now) _ _ c.from_residual.ensures c.in_err-write_lasting.ensures.device;
      counted = counts_passed (g.D.Holder.fault_count c.args.device.now) (g.D.Holder.fault_count c.write_lasting.new.device) _ _ c.from_residual.ensures c.in_err-write_lasting.ensures.counted;
      can = c.write_lasting.ensures.can;
    }

pub returns-clause-others : goal.returns-clause-others
returns-clause-others g c =
    subst (λ (f : NewBytes). (q : FileName) → q ≢ f.name → g.D.Holder.bytes c.write_lasting.new.device q ≡ g.D.Holder.bytes c.args.device.now q) c.file.view_is c.write_lasting.ensures.others

pub returns-clause-crash : goal.returns-clause-crash
returns-clause-crash g c =
    subst (λ (f : NewBytes). (q : FileName) → q ≢ f.name → NoMore (g.D.Holder.may_leave c.args.device.now q) (g.D.Holder.may_leave c.write_lasting.new.device q)) c.file.view_is c.write_lasting.ensures.crash

pub returns-clause-ok : goal.returns-clause-ok
returns-clause-ok g c =
    let told = g.D.Holder.bytes c.args.device.now in
    let told' = g.D.Holder.bytes c.write_lasting.new.device in
    subst (λ (f : NewBytes). IsWritten told told' f) c.file.view_is
    (subst (λ bytes. told' c.file.inside.name ≡ told_after (file_written bytes) (told c.file.inside.name)) c.deref.ensures.value c.in_ok-write_lasting.ensures.ok)

pub returns-clause-lasts : goal.returns-clause-lasts
returns-clause-lasts g c =
    let told' = g.D.Holder.bytes c.write_lasting.new.device in
    let left' = g.D.Holder.may_leave c.write_lasting.new.device in
    subst (λ (f : NewBytes). IsSettled (told' f.name) (left' f.name)) c.file.view_is
    (subst (λ t. IsSettled t (left' c.file.inside.name)) (sym c.in_ok-write_lasting.ensures.ok) c.in_ok-write_lasting.ensures.lasts)

pub returns-clause-fails : goal.returns-clause-fails
returns-clause-fails g c =
    record { device = tt; counted = c.in_ok-write_lasting.ensures.counted; can = c.write_lasting.ensures.can }
