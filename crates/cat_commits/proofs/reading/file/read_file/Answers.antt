use Rattle.cat_ledger_laws.specs.shape.Ties.{IsTold, ToldFiles}
use Rattle.cat_directory.specs.Frames.{OnlyReads}
use Rattle.std.proofs.Common.{◌≡◌, ◌≢◌, ◌++◌, rules, length, Some, ◌∙◌, ap, arith, ℕ, None, inr, refl, sym, take}
use Rattle.std.proofs.lemmas.List.{length-append}
use Rattle.std.proofs.lemmas.Result.{IfOk-from_err}
use Rattle.cat_base.specs.declared.refusal.Refusal.{Refusal}
use Rattle.cat_base.specs.declared.refusal.Refusal.TheVariants.{Damaged, Device, Memory}
use Rattle.cat_model.specs.Text.{Text}
use Rattle.cat_commits.proofs.reading.Reading.{passed, told_so, more_read, all_read, any_fault, counts_behind, counts_on, not_ok}
use Rattle.cat_commits.proofs.Frames.{fails_judged, reads_on}
use Rattle.cat_commits.proofs.reading.file.read_file.Goals as goal

pub returns-in_err-bytes-clause-damaged : goal.returns-in_err-bytes-clause-damaged
returns-in_err-bytes-clause-damaged g c =
    passed (λ (e : Refusal). e ≡ Damaged → (bs : Text) → g.S.Holder.bytes c.args.shelf.now c.args.name ≢ Some (Some bs)) _ _ c.from_residual-in_err-bytes.ensures
    (λ is bs told.
    let short = c.in_err-bytes.ensures.damaged is bs (c.in_ok-size.ensures.same c.args.name ∙ told) in
    let size = c.in_ok-size.ensures.ok bs told in
    omega (arith, short, size, c.piece.ensures.within))

pub returns-in_err-more-clause-damaged : goal.returns-in_err-more-clause-damaged
returns-in_err-more-clause-damaged g c =
    passed (λ (e : Refusal). e ≡ Damaged → (bs : Text) → g.S.Holder.bytes c.args.shelf.now c.args.name ≢ Some (Some bs)) _ _ c.from_residual-in_err-more.ensures
    (λ is bs told.
    let short = c.in_err-more.ensures.damaged is bs (c.loop-alloc.invariant.frame.same c.args.name ∙ told) in
    let size = c.loop-alloc.invariant.all bs told in
    omega (arith, short, size, c.piece-in-loop-alloc.ensures.within))

pub loop-alloc-preserved : goal.loop-alloc-preserved
loop-alloc-preserved g c =
    let joined : c.extend_from_slice.new.self.items ≡ c.loop-alloc.bytes.items ++ c.in_ok-more.more.items =
    c.in_ok-extend_from_slice.ensures.items ∙ ap (λ (l : Text). c.loop-alloc.bytes.items ++ l) c.deref.ensures.value in
    record {
      within = omega (arith, ap length joined, length-append c.loop-alloc.bytes.items c.in_ok-more.more.items, c.in_ok-more.ensures.len, c.piece-in-loop-alloc.ensures.within);
      there = c.loop-alloc.invariant.there;
      told = λ bs told.
          more_read c.loop-alloc.bytes.items c.in_ok-more.more.items c.extend_from_slice.new.self.items bs _ _ (c.loop-alloc.invariant.told bs told) (search rules)
          (c.in_ok-more.ensures.ok bs (c.loop-alloc.invariant.frame.same c.args.name ∙ told)) c.in_ok-more.ensures.len joined;
      all = c.loop-alloc.invariant.all;
      frame = reads_on c.loop-alloc.invariant.frame (record { same = c.in_ok-more.ensures.same; crash = c.in_ok-more.ensures.crash; can = c.in_ok-more.ensures.can });
      count = c.in_ok-more.ensures.counted ∙ c.loop-alloc.invariant.count;
    }

pub returns-clause-ok : goal.returns-clause-ok
returns-clause-ok g c =
    told_so (g.S.Holder.bytes c.args.shelf.now c.args.name) c.loop-alloc.bytes.items c.loop-alloc.invariant.there
    (λ bs told. all_read c.loop-alloc.bytes.items bs c.in_ok-size.size (c.loop-alloc.invariant.told bs told) (c.loop-alloc.invariant.all bs told) (λ less. omega arith))

pub returns-in_err-size : goal.returns-in_err-size
returns-in_err-size g c =
    let told : ToldFiles = g.S.Holder.bytes c.args.shelf.now in
    record {
      ok = not_ok (λ v. IsTold (told c.args.name) (Some v.items)) _ _ c.from_residual.ensures;
      damaged = passed (λ (e : Refusal). e ≡ Damaged → (bs : Text) → told c.args.name ≢ Some (Some bs)) _ _ c.from_residual.ensures c.in_err-size.ensures.damaged;
      due = passed (λ (e : Refusal). e ≡ Memory → told c.args.name ≢ Some None) _ _ c.from_residual.ensures
          (λ is. absurd (let other : Memory ≡ Device = sym is ∙ (c.in_err-size.ensures.device (λ damaged. absurd (let no : Damaged ≡ Memory = sym damaged ∙ is in cc))).0 in cc));
      fails = record {
        device = passed (λ (e : Refusal). e ≡ Device → g.S.Holder.can_fail c.args.shelf.now) _ _ c.from_residual.ensures
            (λ is. (c.in_err-size.ensures.device (λ damaged. absurd (let no : Damaged ≡ Device = sym damaged ∙ is in cc))).1);
        counted = counts_on (g.S.Holder.fault_count c.args.shelf.now) (g.S.Holder.fault_count c.size.new.self) _ _ c.from_residual.ensures c.in_err-size.ensures.counted;
      };
      frame = record { same = c.in_err-size.ensures.same; crash = c.in_err-size.ensures.crash; can = c.in_err-size.ensures.can };
    }

pub returns-in_err-bytes-clause-ok : goal.returns-in_err-bytes-clause-ok
returns-in_err-bytes-clause-ok g c = not_ok (λ v. IsTold (g.S.Holder.bytes c.args.shelf.now c.args.name) (Some v.items)) _ _ c.from_residual-in_err-bytes.ensures

pub returns-in_err-bytes-clause-due : goal.returns-in_err-bytes-clause-due
returns-in_err-bytes-clause-due g c =
    passed (λ (e : Refusal). e ≡ Memory → g.S.Holder.bytes c.args.shelf.now c.args.name ≢ Some None) _ _ c.from_residual-in_err-bytes.ensures (λ is. c.in_ok-size.ensures.absent)

pub returns-in_err-bytes-clause-fails : goal.returns-in_err-bytes-clause-fails
returns-in_err-bytes-clause-fails g c = record {
  device = passed (λ (e : Refusal). e ≡ Device → g.S.Holder.can_fail c.args.shelf.now) _ _ c.from_residual-in_err-bytes.ensures (λ is. c.in_ok-size.ensures.can (c.in_err-bytes.ensures.device is));
  counted = counts_behind (g.S.Holder.fault_count c.args.shelf.now) (g.S.Holder.fault_count c.size.new.self) (g.S.Holder.fault_count c.read.new.self) _ _ c.from_residual-in_err-bytes.ensures
      c.in_ok-size.ensures.counted c.in_err-bytes.ensures.counted;
}

pub returns-in_err-bytes-clause-frame : goal.returns-in_err-bytes-clause-frame
returns-in_err-bytes-clause-frame g c =
    let first : OnlyReads g.S.Holder.bytes g.S.Holder.may_leave g.S.Holder.can_fail c.args.shelf.now c.size.new.self
    = record { same = c.in_ok-size.ensures.same; crash = c.in_ok-size.ensures.crash; can = c.in_ok-size.ensures.can } in
    reads_on first (record { same = c.in_err-bytes.ensures.same; crash = c.in_err-bytes.ensures.crash; can = c.in_err-bytes.ensures.can })

pub loop-alloc-init : goal.loop-alloc-init
loop-alloc-init g c =
    let first : OnlyReads g.S.Holder.bytes g.S.Holder.may_leave g.S.Holder.can_fail c.args.shelf.now c.size.new.self
    = record { same = c.in_ok-size.ensures.same; crash = c.in_ok-size.ensures.crash; can = c.in_ok-size.ensures.can } in
    record {
      within = omega (arith, c.in_ok-bytes.ensures.len, c.piece.ensures.within);
      there = c.in_ok-size.ensures.absent;
      told = λ bs told.
          (c.in_ok-bytes.ensures.ok bs (c.in_ok-size.ensures.same c.args.name ∙ told)).1 ∙ ap (λ (n : ℕ). take n bs) (sym c.in_ok-bytes.ensures.len);
      all = c.in_ok-size.ensures.ok;
      frame = reads_on first (record { same = c.in_ok-bytes.ensures.same; crash = c.in_ok-bytes.ensures.crash; can = c.in_ok-bytes.ensures.can });
      count = c.in_ok-bytes.ensures.counted ∙ c.in_ok-size.ensures.counted;
    }

pub returns-in_err-more-clause-ok : goal.returns-in_err-more-clause-ok
returns-in_err-more-clause-ok g c = not_ok (λ v. IsTold (g.S.Holder.bytes c.args.shelf.now c.args.name) (Some v.items)) _ _ c.from_residual-in_err-more.ensures

pub returns-in_err-more-clause-due : goal.returns-in_err-more-clause-due
returns-in_err-more-clause-due g c =
    passed (λ (e : Refusal). e ≡ Memory → g.S.Holder.bytes c.args.shelf.now c.args.name ≢ Some None) _ _ c.from_residual-in_err-more.ensures (λ is. c.loop-alloc.invariant.there)

pub returns-in_err-more-clause-fails : goal.returns-in_err-more-clause-fails
returns-in_err-more-clause-fails g c = record {
  device = passed (λ (e : Refusal). e ≡ Device → g.S.Holder.can_fail c.args.shelf.now) _ _ c.from_residual-in_err-more.ensures (λ is. c.loop-alloc.invariant.frame.can (c.in_err-more.ensures.device is));
  counted = counts_behind (g.S.Holder.fault_count c.args.shelf.now) (g.S.Holder.fault_count c.loop-alloc.shelf) (g.S.Holder.fault_count c.read-in-loop-alloc.new.self) _ _ c.from_residual-in_err-more.ensures
      c.loop-alloc.invariant.count c.in_err-more.ensures.counted;
}

pub returns-in_err-more-clause-frame : goal.returns-in_err-more-clause-frame
returns-in_err-more-clause-frame g c =
    reads_on c.loop-alloc.invariant.frame (record { same = c.in_err-more.ensures.same; crash = c.in_err-more.ensures.crash; can = c.in_err-more.ensures.can })

pub returns-in_err-extend_from_slice-clause-due : goal.returns-in_err-extend_from_slice-clause-due
returns-in_err-extend_from_slice-clause-due g c =
    any_fault (λ (e : Refusal). e ≡ Memory → g.S.Holder.bytes c.args.shelf.now c.args.name ≢ Some None) _ (λ e is. c.loop-alloc.invariant.there)

pub returns-in_err-extend_from_slice-clause-frame : goal.returns-in_err-extend_from_slice-clause-frame
returns-in_err-extend_from_slice-clause-frame g c =
    reads_on c.loop-alloc.invariant.frame (record { same = c.in_ok-more.ensures.same; crash = c.in_ok-more.ensures.crash; can = c.in_ok-more.ensures.can })

pub returns-clause-fails : goal.returns-clause-fails
returns-clause-fails g c = record { device = tt; counted = c.loop-alloc.invariant.count }

pub returns-clause-frame : goal.returns-clause-frame
returns-clause-frame g c = c.loop-alloc.invariant.frame

pub returns-in_err-extend_from_slice-clause-ok : goal.returns-in_err-extend_from_slice-clause-ok
returns-in_err-extend_from_slice-clause-ok g c = IfOk-from_err _ _ c.from_residual-in_err-extend_from_slice.ensures.0

pub returns-in_err-extend_from_slice-clause-damaged : goal.returns-in_err-extend_from_slice-clause-damaged
returns-in_err-extend_from_slice-clause-damaged g c =
    passed (λ (e : Refusal). e ≡ Damaged → (bs : Text) → g.S.Holder.bytes c.args.shelf.now c.args.name ≢ Some (Some bs)) _ Memory c.from_residual-in_err-extend_from_slice.ensures
    (λ is. absurd (let no : Memory ≡ Damaged = is in cc))

pub returns-in_err-extend_from_slice-clause-fails : goal.returns-in_err-extend_from_slice-clause-fails
returns-in_err-extend_from_slice-clause-fails g c = fails_judged c.from_residual-in_err-extend_from_slice.ensures (c.in_ok-more.ensures.counted ∙ c.loop-alloc.invariant.count) (inr refl)
