use Rattle.std.proofs.Common.{◌≡◌, ◌≢◌, ℕ, [], ◌∷◌, ◌∙◌, Some, ap, subst}
use Rattle.cat_base.specs.declared.refusal.Refusal.{Refusal}
use Rattle.cat_base.specs.declared.refusal.Refusal.TheVariants.{Device, Memory}
use Rattle.cat_directory.specs.Devices.{NoMore, emptied, told_after}
use Rattle.cat_directory.specs.declared.name.FileName.{FileName}
use Rattle.cat_directory.specs.declared.name.FileName.TheVariants as file
use Rattle.cat_ledger_laws.specs.shape.Ties.{IsTold, ToldFiles, TouchesNothing, TouchesOnly}
use Rattle.cat_model.specs.Files.{Name}
use Rattle.cat_merge.specs.files.Making.{InMaking}
use Rattle.cat_merge.proofs.files.Judged.{each_file}
use Rattle.cat_merge.proofs.files.Ranges.{not_done, passed, touches_one, writing_counted, written_told}
use Rattle.cat_merge.proofs.files.making.MergeInMaking.begin_file.Goals as goal

pub returns-in_err-create-clause-begun : goal.returns-in_err-create-clause-begun
returns-in_err-create-clause-begun g c =
    not_done _ _ _ c.from_residual.ensures

pub returns-in_err-create-clause-told : goal.returns-in_err-create-clause-told
returns-in_err-create-clause-told g c =
    not_done _ _ _ c.from_residual.ensures

pub returns-in_err-create-clause-others : goal.returns-in_err-create-clause-others
returns-in_err-create-clause-others g c =
    let told : ToldFiles = g.D.Holder.bytes c.args.device.now in
    let told' : ToldFiles = g.D.Holder.bytes c.create.new.self in
    subst (λ (n : ℕ). TouchesOnly (Name.source n ∷ []) told told') (c.self.invariant.same ∙ ap (λ (x : InMaking). x.shape.number) c.self.view_is) (touches_one told told' (file.Source c.self.inside.number) c.create.ensures.others)

pub returns-in_err-create-clause-crash : goal.returns-in_err-create-clause-crash
returns-in_err-create-clause-crash g c =
    subst (λ (n : ℕ). (q : FileName) → q ≢ file.Source n → NoMore (g.D.Holder.may_leave c.args.device.now q) (g.D.Holder.may_leave c.create.new.self q)) (c.self.invariant.same ∙ ap (λ (x : InMaking). x.shape.number) c.self.view_is) c.create.ensures.crash

pub returns-in_err-create-clause-memory : goal.returns-in_err-create-clause-memory
returns-in_err-create-clause-memory g c =
    let told : ToldFiles = g.D.Holder.bytes c.args.device.now in
    let told' : ToldFiles = g.D.Holder.bytes c.create.new.self in
    passed (λ (e : Refusal). e ≡ Memory → TouchesNothing told told') _ _ c.from_residual.ensures
    (λ is. each_file (λ (q : FileName). told' q ≡ told q) (file.Source c.self.inside.number) (c.in_err-create.ensures.memory is) c.create.ensures.others)

pub returns-in_err-create-clause-unwritten : goal.returns-in_err-create-clause-unwritten
returns-in_err-create-clause-unwritten g c =
    passed (λ (e : Refusal). e ≡ Memory → (q : FileName) → NoMore (g.D.Holder.may_leave c.args.device.now q) (g.D.Holder.may_leave c.create.new.self q)) _ _ c.from_residual.ensures
    (λ is.
    each_file (λ (q : FileName). NoMore (g.D.Holder.may_leave c.args.device.now q) (g.D.Holder.may_leave c.create.new.self q)) (file.Source c.self.inside.number)
    (c.in_err-create.ensures.unwritten is) c.create.ensures.crash)

pub returns-in_err-create-clause-fails : goal.returns-in_err-create-clause-fails
returns-in_err-create-clause-fails g c =
    record {
      device = passed (λ (e : Refusal). e ≡ Device → g.D.Holder.can_fail c.args.device.now) _ _ c.from_residual.ensures c.in_err-create.ensures.device;
      counted = writing_counted (g.D.Holder.fault_count c.args.device.now) (g.D.Holder.fault_count c.create.new.self) _ _ c.from_residual.ensures c.in_err-create.ensures.counted;
      can = c.create.ensures.can;
    }

pub returns-clause-begun : goal.returns-clause-begun
returns-clause-begun g c =
    let told : ToldFiles = g.D.Holder.bytes c.args.device.now in
    let told' : ToldFiles = g.D.Holder.bytes c.create.new.self in
    subst (λ (n : ℕ). told' (file.Source n) ≡ told_after emptied (told (file.Source n))) (c.self.invariant.same ∙ ap (λ (x : InMaking). x.shape.number) c.self.view_is) c.in_ok-create.ensures.ok

pub returns-clause-told : goal.returns-clause-told
returns-clause-told g c =
    let told : ToldFiles = g.D.Holder.bytes c.args.device.now in
    let told' : ToldFiles = g.D.Holder.bytes c.create.new.self in
    subst (λ (n : ℕ). IsTold (told' (file.Source n)) (Some [])) (c.self.invariant.same ∙ ap (λ (x : InMaking). x.shape.number) c.self.view_is)
    (written_told (told (file.Source c.self.inside.number)) (told' (file.Source c.self.inside.number)) [] c.in_ok-create.ensures.ok)

pub returns-clause-others : goal.returns-clause-others
returns-clause-others g c =
    let told : ToldFiles = g.D.Holder.bytes c.args.device.now in
    let told' : ToldFiles = g.D.Holder.bytes c.create.new.self in
    subst (λ (n : ℕ). TouchesOnly (Name.source n ∷ []) told told') (c.self.invariant.same ∙ ap (λ (x : InMaking). x.shape.number) c.self.view_is) (touches_one told told' (file.Source c.self.inside.number) c.create.ensures.others)

pub returns-clause-crash : goal.returns-clause-crash
returns-clause-crash g c =
    subst (λ (n : ℕ). (q : FileName) → q ≢ file.Source n → NoMore (g.D.Holder.may_leave c.args.device.now q) (g.D.Holder.may_leave c.create.new.self q)) (c.self.invariant.same ∙ ap (λ (x : InMaking). x.shape.number) c.self.view_is) c.create.ensures.crash

pub returns-clause-fails : goal.returns-clause-fails
returns-clause-fails g c =
    record { device = tt; counted = c.in_ok-create.ensures.counted; can = c.create.ensures.can }
