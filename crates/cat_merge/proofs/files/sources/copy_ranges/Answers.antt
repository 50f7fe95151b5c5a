use Rattle.std.proofs.Common.{◌≡◌, ◌∙◌, ℕ, length, Some, None, inl, inr, sym, ap, subst}
use Rattle.std.specs.Prelude.{◌⊎◌, Any}
use Rattle.cat_base.specs.declared.refusal.Refusal.{Refusal}
use Rattle.cat_base.specs.declared.refusal.Refusal.TheVariants.{Damaged, Device, Memory}
use Rattle.cat_directory.specs.Devices.{ReadingCount, WritingCount, extended, told_after}
use Rattle.cat_ledger_laws.specs.shape.Ties.{ToldFiles}
use Rattle.cat_merge.specs.files.Sources.{AreAppended, IsCutOff}
use Rattle.cat_merge.proofs.files.Ranges.{counts_passed, not_done, passed, reading_of}
use Rattle.cat_merge.proofs.files.sources.copy_ranges.Goals as goal

pub returns-in_err-bytes : goal.returns-in_err-bytes
returns-in_err-bytes g c =
    let told : ToldFiles = g.D.Holder.bytes c.args.device.now in
    record {
      others = λ q other. c.in_err-bytes.ensures.frame.same q;
      crash = λ q other. c.in_err-bytes.ensures.frame.crash q;
      ok = not_done (AreAppended c.args.ranges.now c.args.to told (g.D.Holder.bytes c.read_ranges.new.shelf)) _ _ c.from_residual.ensures;
      memory = passed (λ (e : Refusal). e ≡ Memory → g.D.Holder.bytes c.read_ranges.new.shelf c.args.to ≡ told c.args.to) _ _ c.from_residual.ensures (λ is. c.in_err-bytes.ensures.frame.same c.args.to);
      damaged = passed (λ (e : Refusal). e ≡ Damaged → Any (IsCutOff told) c.args.ranges.now) _ _ c.from_residual.ensures c.in_err-bytes.ensures.damaged;
      device = passed (λ (e : Refusal). e ≡ Device → g.D.Holder.can_fail c.args.device.now ⊎ (told c.args.to ≡ Some None)) _ _ c.from_residual.ensures (λ is. inl (c.in_err-bytes.ensures.fails.device is));
      can = c.in_err-bytes.ensures.frame.can;
      counted = counts_passed (g.D.Holder.fault_count c.args.device.now) (g.D.Holder.fault_count c.read_ranges.new.shelf) _ _ c.from_residual.ensures c.in_err-bytes.ensures.fails.counted;
    }

pub returns-in_err-append-clause-others : goal.returns-in_err-append-clause-others
returns-in_err-append-clause-others g c = λ q other. c.in_err-append.ensures.others q other ∙ c.in_ok-bytes.ensures.frame.same q

pub returns-in_err-append-clause-crash : goal.returns-in_err-append-clause-crash
returns-in_err-append-clause-crash g c = λ q other e left. c.in_ok-bytes.ensures.frame.crash q e (c.in_err-append.ensures.crash q other e left)

pub returns-in_err-append-clause-memory : goal.returns-in_err-append-clause-memory
returns-in_err-append-clause-memory g c =
    passed (λ (e : Refusal). e ≡ Memory → g.D.Holder.bytes c.append.new.self c.args.to ≡ g.D.Holder.bytes c.args.device.now c.args.to) _ _ c.from_residual-in_err-append.ensures
    (λ is. c.in_err-append.ensures.memory is ∙ c.in_ok-bytes.ensures.frame.same c.args.to)

pub returns-in_err-append-clause-device : goal.returns-in_err-append-clause-device
returns-in_err-append-clause-device g c =
    passed (λ (e : Refusal). e ≡ Device → g.D.Holder.can_fail c.args.device.now ⊎ (g.D.Holder.bytes c.args.device.now c.args.to ≡ Some None)) _ _ c.from_residual-in_err-append.ensures
    (λ is.
    elim (c.in_err-append.ensures.device is) [
      | inl fails ↦ inl (c.in_ok-bytes.ensures.frame.can fails)
      | inr absent ↦ inr (sym (c.in_ok-bytes.ensures.frame.same c.args.to) ∙ absent)
    ])

pub returns-in_err-append-clause-ok : goal.returns-in_err-append-clause-ok
returns-in_err-append-clause-ok g c = not_done _ _ _ c.from_residual-in_err-append.ensures

pub returns-in_err-append-clause-damaged : goal.returns-in_err-append-clause-damaged
returns-in_err-append-clause-damaged g c =
    passed (λ (e : Refusal). e ≡ Damaged → Any (IsCutOff (g.D.Holder.bytes c.args.device.now)) c.args.ranges.now) _ _ c.from_residual-in_err-append.ensures
    (λ is. absurd (subst (WritingCount (g.D.Holder.fault_count c.read_ranges.new.shelf) (g.D.Holder.fault_count c.append.new.self)) is c.in_err-append.ensures.counted))

pub returns-in_err-append-clause-counted : goal.returns-in_err-append-clause-counted
returns-in_err-append-clause-counted g c =
    counts_passed (g.D.Holder.fault_count c.args.device.now) (g.D.Holder.fault_count c.append.new.self) _ _ c.from_residual-in_err-append.ensures
    (subst (λ (n : ℕ). ReadingCount n (g.D.Holder.fault_count c.append.new.self) c.in_err-append.field-0.0) c.in_ok-bytes.ensures.fails.counted
    (reading_of (g.D.Holder.fault_count c.read_ranges.new.shelf) (g.D.Holder.fault_count c.append.new.self) c.in_err-append.field-0.0 c.in_err-append.ensures.counted))

pub returns-in_err-append-clause-can : goal.returns-in_err-append-clause-can
returns-in_err-append-clause-can g c = λ fails. c.in_ok-bytes.ensures.frame.can (c.in_err-append.ensures.can fails)

pub returns : goal.returns
returns g c =
    let told : ToldFiles = g.D.Holder.bytes c.args.device.now in
    record {
      others = λ q other. c.in_ok-append.ensures.others q other ∙ c.in_ok-bytes.ensures.frame.same q;
      crash = λ q other e left. c.in_ok-bytes.ensures.frame.crash q e (c.in_ok-append.ensures.crash q other e left);
      ok = record {
        bytes = c.deref.result.now;
        long = ap length c.deref.ensures.value ∙ c.in_ok-bytes.ensures.len;
        read = λ tells. c.deref.ensures.value ∙ c.in_ok-bytes.ensures.ok tells;
        extends = c.in_ok-append.ensures.ok ∙ ap (told_after (extended c.deref.result.now)) (c.in_ok-bytes.ensures.frame.same c.args.to);
      };
      memory = tt;
      damaged = tt;
      device = tt;
      can = λ fails. c.in_ok-bytes.ensures.frame.can (c.in_ok-append.ensures.can fails);
      counted = c.in_ok-append.ensures.counted ∙ c.in_ok-bytes.ensures.fails.counted;
    }
