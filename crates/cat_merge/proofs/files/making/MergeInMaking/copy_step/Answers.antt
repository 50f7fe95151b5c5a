use Rattle.std.proofs.Common.{◌≡◌, ◌≢◌, ℕ, ◌+◌, ◌-◌, [], ◌∷◌, ◌∙◌, Some, None, length, sym, ap, subst, inl, inr}
use Rattle.std.specs.Prelude.{◌⊎◌, All, Any, min}
use Rattle.std.proofs.lemmas.Result.{MatchResult-from_err}
use Rattle.cat_base.specs.declared.refusal.Refusal.{Refusal}
use Rattle.cat_base.specs.declared.refusal.Refusal.TheVariants.{Damaged, Device, Memory}
use Rattle.cat_directory.specs.Devices.{NoMore, ReadingCount}
use Rattle.cat_directory.specs.declared.name.FileName.{FileName}
use Rattle.cat_directory.specs.declared.name.FileName.TheVariants as file
use Rattle.cat_ledger_laws.specs.shape.MergeLaws.{CopiesOn}
use Rattle.cat_ledger_laws.specs.shape.Shapes.{MergingShape}
use Rattle.cat_ledger_laws.specs.shape.Steps.{passed_on}
use Rattle.cat_ledger_laws.specs.shape.Ties.{ToldFiles, TouchesOnly}
use Rattle.cat_merge.specs.Merging.{MergeUnderWay}
use Rattle.cat_merge.specs.Ranges.{AreWithin}
use Rattle.cat_model.specs.Files.{Name}
use Rattle.cat_model.specs.Limits.{step_limit}
use Rattle.cat_model.specs.Merged.{rows_of_all}
use Rattle.cat_merge.specs.files.Making.{InMaking}
use Rattle.cat_merge.specs.files.Sources.{AreAppended, IsCutOff, LacksBytes, LacksSources, MayReachRange, MayReachSources}
use Rattle.cat_merge.proofs.files.Judged.{judged_lacks, judged_reaches, judged_short}
use Rattle.cat_merge.proofs.files.Ranges.{as_one, counts_passed, not_done, passed, copies_on, names_on, some_short, touches_one}
use Rattle.cat_merge.proofs.files.making.MergeInMaking.copy_step.Goals as goal

-- what it is with this merge
abbrev made : ℕ → MergeUnderWay → InMaking
made index m = record { schema = m.schema; shape = record { number = m.number; index = index; inputs = m.inputs; passed = m.passed } }

-- no more than how many rows are passed has changed
same_but_passed : (index n : ℕ) (old : InMaking) (merge new : MergeUnderWay) → made index merge ≡ old → new ≡ record merge { passed = n }
    → made index new ≡ record old { shape = record old.shape { passed = new.passed } }
same_but_passed index n old merge new is e =
    ap (made index) e ∙ ap (λ (x : InMaking). record x { shape = record x.shape { passed = n } }) is
    ∙ ap (λ (m : MergeUnderWay). record old { shape = record old.shape { passed = m.passed } }) (sym e)

-- the rows of a step are passed
one_step : (index : ℕ) (old : InMaking) (merge new : MergeUnderWay) → made index merge ≡ old
    → new ≡ record merge { passed = merge.passed + min step_limit (length (rows_of_all merge.inputs) - merge.passed) } → made index new ≡ record old { shape = passed_on old.shape }
one_step index old merge new is e = ap (made index) e ∙ ap (λ (x : InMaking). record x { shape = passed_on x.shape }) is

pub returns-clause-copied : goal.returns-clause-copied
returns-clause-copied g c =
    let told : ToldFiles = g.D.Holder.bytes c.args.device.now in
    let told' : ToldFiles = g.D.Holder.bytes c.append_ranges.new.device in
    let merge : MergeUnderWay = c.self.inside.merge in
    let m : MergingShape = record { number = merge.number; index = c.self.inside.index; inputs = merge.inputs; passed = merge.passed } in
    let appended : AreAppended c.deref.result.now (file.Source merge.number) told told' =
    subst (λ (n : ℕ). AreAppended c.deref.result.now (file.Source n) told told') c.self.invariant.same
    (subst (λ (t : ToldFiles). AreAppended c.deref.result.now (file.Source c.self.inside.number) t told')
    (as_one told (g.D.Holder.bytes c.next_ranges.new.shelf) c.in_ok-ranges.ensures.frame.same) c.in_ok-append_ranges.ensures.ok) in
    let others = subst (λ (n : ℕ). TouchesOnly (Name.source n ∷ []) told told') c.self.invariant.same (touches_one told told' (file.Source c.self.inside.number) (λ q other. c.in_ok-append_ranges.ensures.others q other ∙ c.in_ok-ranges.ensures.frame.same q)) in
    subst (λ (x : MergingShape). CopiesOn x told told') (ap (λ (x : InMaking). x.shape) c.self.view_is)
    (copies_on m told told' c.deref.result.now (g.met.D.Holder.tells_alike c.args.device.now) others appended
    (names_on merge c.next_ranges.new.merge c.in_ok-ranges.ranges.items c.deref.result.now c.deref.ensures.value c.in_ok-ranges.ensures.ok c.in_ok-ranges.ensures.sources))

pub returns-in_err-append_ranges-clause-damaged : goal.returns-in_err-append_ranges-clause-damaged
returns-in_err-append_ranges-clause-damaged g c =
    let told : ToldFiles = g.D.Holder.bytes c.args.device.now in
    let merge : MergeUnderWay = c.self.inside.merge in
    let m : MergingShape = record { number = merge.number; index = c.self.inside.index; inputs = merge.inputs; passed = merge.passed } in
    passed (λ (e : Refusal). e ≡ Damaged → LacksSources c.args.self.now.shape told) _ _ c.from_residual-in_err-append_ranges.ensures
    (λ is. subst (λ (x : MergingShape). LacksSources x told) (ap (λ (x : InMaking). x.shape) c.self.view_is)
    (let lacks : LacksSources m told = record {
      ranges = c.deref.result.now;
      named = names_on merge c.next_ranges.new.merge c.in_ok-ranges.ranges.items c.deref.result.now c.deref.ensures.value c.in_ok-ranges.ensures.ok c.in_ok-ranges.ensures.sources;
      cut = subst (λ (t : ToldFiles). Any (IsCutOff t) c.deref.result.now) (as_one told (g.D.Holder.bytes c.next_ranges.new.shelf) c.in_ok-ranges.ensures.frame.same) (c.in_err-append_ranges.ensures.damaged is);
    } in lacks))

pub returns-in_err-append_ranges-clause-short : goal.returns-in_err-append_ranges-clause-short
returns-in_err-append_ranges-clause-short g c =
    let told : ToldFiles = g.D.Holder.bytes c.args.device.now in
    let merge : MergeUnderWay = c.self.inside.merge in
    let within : AreWithin merge.inputs c.deref.result.now = subst (AreWithin merge.inputs) (sym c.deref.ensures.value) c.in_ok-ranges.ensures.within in
    passed (λ (e : Refusal). e ≡ Damaged → Any (LacksBytes told) c.args.self.now.shape.inputs) _ _ c.from_residual-in_err-append_ranges.ensures
    (λ is. subst (λ (x : MergingShape). Any (LacksBytes told) x.inputs) (ap (λ (x : InMaking). x.shape) c.self.view_is)
    (some_short told merge.inputs c.deref.result.now within
    (subst (λ (t : ToldFiles). Any (IsCutOff t) c.deref.result.now) (as_one told (g.D.Holder.bytes c.next_ranges.new.shelf) c.in_ok-ranges.ensures.frame.same) (c.in_err-append_ranges.ensures.damaged is))))

pub returns-in_err-append_ranges-clause-due : goal.returns-in_err-append_ranges-clause-due
returns-in_err-append_ranges-clause-due g c =
    let told : ToldFiles = g.D.Holder.bytes c.args.device.now in
    let merge : MergeUnderWay = c.self.inside.merge in
    let m : MergingShape = record { number = merge.number; index = c.self.inside.index; inputs = merge.inputs; passed = merge.passed } in
    passed (λ (e : Refusal). e ≡ Memory → MayReachSources c.args.self.now.shape told) _ _ c.from_residual-in_err-append_ranges.ensures
    (λ is. subst (λ (x : MergingShape). MayReachSources x told) (ap (λ (x : InMaking). x.shape) c.self.view_is)
    (let reaches : MayReachSources m told = record {
      ranges = c.deref.result.now;
      named = names_on merge c.next_ranges.new.merge c.in_ok-ranges.ranges.items c.deref.result.now c.deref.ensures.value c.in_ok-ranges.ensures.ok c.in_ok-ranges.ensures.sources;
      reached = subst (λ (t : ToldFiles). All (MayReachRange t) c.deref.result.now) (as_one told (g.D.Holder.bytes c.next_ranges.new.shelf) c.in_ok-ranges.ensures.frame.same) (c.in_err-append_ranges.ensures.due is);
    } in reaches))

pub returns-in_err-ranges-clause-damaged : goal.returns-in_err-ranges-clause-damaged
returns-in_err-ranges-clause-damaged g c =
    let told : ToldFiles = g.D.Holder.bytes c.args.device.now in
    let merge : MergeUnderWay = c.self.inside.merge in
    let m : MergingShape = record { number = merge.number; index = c.self.inside.index; inputs = merge.inputs; passed = merge.passed } in
    passed (λ (e : Refusal). e ≡ Damaged → LacksSources c.args.self.now.shape told) _ _ c.from_residual.ensures
    (λ is. subst (λ (x : MergingShape). LacksSources x told) (ap (λ (x : InMaking). x.shape) c.self.view_is) (judged_lacks told m (c.in_err-ranges.ensures.damaged is)))

pub returns-in_err-ranges-clause-short : goal.returns-in_err-ranges-clause-short
returns-in_err-ranges-clause-short g c =
    let told : ToldFiles = g.D.Holder.bytes c.args.device.now in
    let merge : MergeUnderWay = c.self.inside.merge in
    let m : MergingShape = record { number = merge.number; index = c.self.inside.index; inputs = merge.inputs; passed = merge.passed } in
    passed (λ (e : Refusal). e ≡ Damaged → Any (LacksBytes told) c.args.self.now.shape.inputs) _ _ c.from_residual.ensures
    (λ is. subst (λ (x : MergingShape). Any (LacksBytes told) x.inputs) (ap (λ (x : InMaking). x.shape) c.self.view_is) (judged_short told m (c.in_err-ranges.ensures.damaged is)))

pub returns-in_err-ranges-clause-due : goal.returns-in_err-ranges-clause-due
returns-in_err-ranges-clause-due g c =
    let told : ToldFiles = g.D.Holder.bytes c.args.device.now in
    let merge : MergeUnderWay = c.self.inside.merge in
    let m : MergingShape = record { number = merge.number; index = c.self.inside.index; inputs = merge.inputs; passed = merge.passed } in
    passed (λ (e : Refusal). e ≡ Memory → MayReachSources c.args.self.now.shape told) _ _ c.from_residual.ensures
    (λ is. subst (λ (x : MergingShape). MayReachSources x told) (ap (λ (x : InMaking). x.shape) c.self.view_is) (judged_reaches told m (c.in_err-ranges.ensures.due is)))

pub returns-in_err-ranges-clause-ok : goal.returns-in_err-ranges-clause-ok
returns-in_err-ranges-clause-ok g c =
    not_done _ _ _ c.from_residual.ensures

pub returns-in_err-ranges-clause-copied : goal.returns-in_err-ranges-clause-copied
returns-in_err-ranges-clause-copied g c =
    not_done _ _ _ c.from_residual.ensures

pub returns-in_err-ranges-clause-err : goal.returns-in_err-ranges-clause-err
returns-in_err-ranges-clause-err g c =
    MatchResult-from_err _ _ _ c.from_residual.ensures.0 (λ _. same_but_passed c.self.inside.index c.self.inside.merge.passed c.args.self.now c.self.inside.merge c.next_ranges.new.merge c.self.view_is c.in_err-ranges.ensures.err)

pub returns-in_err-ranges-clause-others : goal.returns-in_err-ranges-clause-others
returns-in_err-ranges-clause-others g c =
    λ q other. c.in_err-ranges.ensures.frame.same q

pub returns-in_err-ranges-clause-crash : goal.returns-in_err-ranges-clause-crash
returns-in_err-ranges-clause-crash g c =
    λ q other. c.in_err-ranges.ensures.frame.crash q

pub returns-in_err-ranges-clause-device : goal.returns-in_err-ranges-clause-device
returns-in_err-ranges-clause-device g c =
    let told : ToldFiles = g.D.Holder.bytes c.args.device.now in
    passed (λ (e : Refusal). e ≡ Device → g.D.Holder.can_fail c.args.device.now ⊎ (told (file.Source c.args.self.now.shape.number) ≡ Some None)) _ _ c.from_residual.ensures
    (λ is. inl (c.in_err-ranges.ensures.fails.device is))

pub returns-in_err-ranges-clause-can : goal.returns-in_err-ranges-clause-can
returns-in_err-ranges-clause-can g c =
    c.in_err-ranges.ensures.frame.can

pub returns-in_err-ranges-clause-counted : goal.returns-in_err-ranges-clause-counted
returns-in_err-ranges-clause-counted g c =
    counts_passed (g.D.Holder.fault_count c.args.device.now) (g.D.Holder.fault_count c.next_ranges.new.shelf) _ _ c.from_residual.ensures c.in_err-ranges.ensures.fails.counted

pub returns-in_err-append_ranges-clause-ok : goal.returns-in_err-append_ranges-clause-ok
returns-in_err-append_ranges-clause-ok g c =
    not_done _ _ _ c.from_residual-in_err-append_ranges.ensures

pub returns-in_err-append_ranges-clause-copied : goal.returns-in_err-append_ranges-clause-copied
returns-in_err-append_ranges-clause-copied g c =
    not_done _ _ _ c.from_residual-in_err-append_ranges.ensures

pub returns-in_err-append_ranges-clause-err : goal.returns-in_err-append_ranges-clause-err
returns-in_err-append_ranges-clause-err g c =
    MatchResult-from_err _ _ _ c.from_residual-in_err-append_ranges.ensures.0 (λ _. same_but_passed c.self.inside.index _ c.args.self.now c.self.inside.merge c.next_ranges.new.merge c.self.view_is c.in_ok-ranges.ensures.ok)

pub returns-in_err-append_ranges-clause-others : goal.returns-in_err-append_ranges-clause-others
returns-in_err-append_ranges-clause-others g c =
    let told : ToldFiles = g.D.Holder.bytes c.args.device.now in
    let told' : ToldFiles = g.D.Holder.bytes c.append_ranges.new.device in
    subst (λ (n : ℕ). TouchesOnly (Name.source n ∷ []) told told') (c.self.invariant.same ∙ ap (λ (x : InMaking). x.shape.number) c.self.view_is)
    (touches_one told told' (file.Source c.self.inside.number) (λ q other. c.in_err-append_ranges.ensures.others q other ∙ c.in_ok-ranges.ensures.frame.same q))

pub returns-in_err-append_ranges-clause-crash : goal.returns-in_err-append_ranges-clause-crash
returns-in_err-append_ranges-clause-crash g c =
    subst (λ (n : ℕ). (q : FileName) → q ≢ file.Source n → NoMore (g.D.Holder.may_leave c.args.device.now q) (g.D.Holder.may_leave c.append_ranges.new.device q)) (c.self.invariant.same ∙ ap (λ (x : InMaking). x.shape.number) c.self.view_is)
    (λ q other e left. c.in_ok-ranges.ensures.frame.crash q e (c.in_err-append_ranges.ensures.crash q other e left))

pub returns-in_err-append_ranges-clause-device : goal.returns-in_err-append_ranges-clause-device
returns-in_err-append_ranges-clause-device g c =
    let told : ToldFiles = g.D.Holder.bytes c.args.device.now in
    passed (λ (e : Refusal). e ≡ Device → g.D.Holder.can_fail c.args.device.now ⊎ (told (file.Source c.args.self.now.shape.number) ≡ Some None)) _ _ c.from_residual-in_err-append_ranges.ensures
    (λ is.
    elim (c.in_err-append_ranges.ensures.device is) [
      | inl fails ↦ inl (c.in_ok-ranges.ensures.frame.can fails)
      | inr absent ↦ inr (subst (λ (n : ℕ). told (file.Source n) ≡ Some None) (c.self.invariant.same ∙ ap (λ (x : InMaking). x.shape.number) c.self.view_is) (sym (c.in_ok-ranges.ensures.frame.same (file.Source c.self.inside.number)) ∙ absent))
    ])

pub returns-in_err-append_ranges-clause-can : goal.returns-in_err-append_ranges-clause-can
returns-in_err-append_ranges-clause-can g c =
    λ fails. c.in_ok-ranges.ensures.frame.can (c.in_err-append_ranges.ensures.can fails)

pub returns-in_err-append_ranges-clause-counted : goal.returns-in_err-append_ranges-clause-counted
returns-in_err-append_ranges-clause-counted g c =
    counts_passed (g.D.Holder.fault_count c.args.device.now) (g.D.Holder.fault_count c.append_ranges.new.device) _ _ c.from_residual-in_err-append_ranges.ensures
    (subst (λ (n : ℕ). ReadingCount n (g.D.Holder.fault_count c.append_ranges.new.device) c.in_err-append_ranges.field-0.0) c.in_ok-ranges.ensures.fails.counted c.in_err-append_ranges.ensures.counted)

pub returns-clause-ok : goal.returns-clause-ok
returns-clause-ok g c =
    one_step c.self.inside.index c.args.self.now c.self.inside.merge c.next_ranges.new.merge c.self.view_is c.in_ok-ranges.ensures.ok

pub returns-clause-others : goal.returns-clause-others
returns-clause-others g c =
    let told : ToldFiles = g.D.Holder.bytes c.args.device.now in
    let told' : ToldFiles = g.D.Holder.bytes c.append_ranges.new.device in
    subst (λ (n : ℕ). TouchesOnly (Name.source n ∷ []) told told') (c.self.invariant.same ∙ ap (λ (x : InMaking). x.shape.number) c.self.view_is)
    (touches_one told told' (file.Source c.self.inside.number) (λ q other. c.in_ok-append_ranges.ensures.others q other ∙ c.in_ok-ranges.ensures.frame.same q))

pub returns-clause-crash : goal.returns-clause-crash
returns-clause-crash g c =
    subst (λ (n : ℕ). (q : FileName) → q ≢ file.Source n → NoMore (g.D.Holder.may_leave c.args.device.now q) (g.D.Holder.may_leave c.append_ranges.new.device q)) (c.self.invariant.same ∙ ap (λ (x : InMaking). x.shape.number) c.self.view_is)
    (λ q other e left. c.in_ok-ranges.ensures.frame.crash q e (c.in_ok-append_ranges.ensures.crash q other e left))

pub returns-clause-can : goal.returns-clause-can
returns-clause-can g c =
    λ fails. c.in_ok-ranges.ensures.frame.can (c.in_ok-append_ranges.ensures.can fails)

pub returns-clause-counted : goal.returns-clause-counted
returns-clause-counted g c =
    c.in_ok-append_ranges.ensures.counted ∙ c.in_ok-ranges.ensures.fails.counted
