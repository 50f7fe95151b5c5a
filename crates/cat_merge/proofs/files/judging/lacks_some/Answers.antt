use Rattle.std.proofs.Common.{◌≡◌, ◌∙◌, ℕ, get_or, true, false, refl, subst, arith}
use Rattle.std.specs.Prelude.{All}
use Rattle.std.proofs.lemmas.List.{take_all}
use Rattle.cat_base.specs.declared.refusal.Refusal.{Refusal}
use Rattle.cat_base.specs.declared.refusal.Refusal.TheVariants.{Device}
use Rattle.cat_directory.specs.Devices.{ReadingCount}
use Rattle.cat_merge.specs.files.Sources.{MayReachRange}
use Rattle.cat_merge.proofs.Frames.{reads_none, reads_on}
use Rattle.cat_merge.proofs.files.Judged.{more_reached}
use Rattle.cat_merge.proofs.files.Ranges.{at_index, counts_passed, no_range, not_answered, passed, some_cut_off}
use Rattle.cat_merge.proofs.files.judging.lacks_some.Goals as goal

pub returns-in_err-lacking-clause-device : goal.returns-in_err-lacking-clause-device
returns-in_err-lacking-clause-device g c =
    passed (λ (e : Refusal). (e ≡ Device) × g.S.Holder.can_fail c.args.shelf.now) _ _ c.from_residual.ensures
    (c.in_err-lacking.ensures.device.0, c.loop-range.invariant.frame.can c.in_err-lacking.ensures.device.1)

pub returns-then-lacking-clause-cut : goal.returns-then-lacking-clause-cut
returns-then-lacking-clause-cut g c = λ is.
    some_cut_off (g.S.Holder.bytes c.args.shelf.now) (g.S.Holder.bytes c.loop-range.shelf) c.args.ranges.now c.loop-range.range-index (get_or c.args.ranges.now c.loop-range.range-index no_range)
    c.loop-range.invariant.frame.same c.loop-range-test.true (at_index c.args.ranges.now c.loop-range.range-index no_range c.loop-range-test.true) (c.in_ok-lacking.ensures.cut c.if-lacking.true)

pub loop-range-preserved : goal.loop-range-preserved
loop-range-preserved g c = record {
  reached = more_reached (g.S.Holder.bytes c.args.shelf.now) (g.S.Holder.bytes c.loop-range.shelf) c.args.ranges.now c.loop-range.range-index c.loop-range.invariant.frame.same c.loop-range-test.true
      c.loop-range.invariant.reached (c.in_ok-lacking.ensures.reached c.if-lacking.false);
  frame = reads_on c.loop-range.invariant.frame c.in_ok-lacking.ensures.frame;
  count = c.in_ok-lacking.ensures.counted ∙ c.loop-range.invariant.count;
}

pub loop-range-init : goal.loop-range-init
loop-range-init g c = record { reached = λ k d none. absurd (omega (arith, none)); frame = reads_none; count = refl }

pub returns-in_err-lacking-clause-cut : goal.returns-in_err-lacking-clause-cut
returns-in_err-lacking-clause-cut g c = not_answered _ _ _ c.from_residual.ensures

pub returns-in_err-lacking-clause-reached : goal.returns-in_err-lacking-clause-reached
returns-in_err-lacking-clause-reached g c = not_answered _ _ _ c.from_residual.ensures

pub returns-in_err-lacking-clause-frame : goal.returns-in_err-lacking-clause-frame
returns-in_err-lacking-clause-frame g c = reads_on c.loop-range.invariant.frame c.in_err-lacking.ensures.frame

pub returns-in_err-lacking-clause-counted : goal.returns-in_err-lacking-clause-counted
returns-in_err-lacking-clause-counted g c =
    counts_passed (g.S.Holder.fault_count c.args.shelf.now) (g.S.Holder.fault_count c.lacks_range.new.shelf) _ _ c.from_residual.ensures
    (subst (λ (n : ℕ). ReadingCount n (g.S.Holder.fault_count c.lacks_range.new.shelf) c.in_err-lacking.field-0.0) c.loop-range.invariant.count c.in_err-lacking.ensures.counted)

pub returns-then-lacking-clause-reached : goal.returns-then-lacking-clause-reached
returns-then-lacking-clause-reached g c = λ is. absurd (let no : true ≡ false = is in cc)

pub returns-then-lacking-clause-frame : goal.returns-then-lacking-clause-frame
returns-then-lacking-clause-frame g c = reads_on c.loop-range.invariant.frame c.in_ok-lacking.ensures.frame

pub returns-then-lacking-clause-counted : goal.returns-then-lacking-clause-counted
returns-then-lacking-clause-counted g c = c.in_ok-lacking.ensures.counted ∙ c.loop-range.invariant.count

pub returns : goal.returns
returns g c = record {
  cut = λ is. absurd (let no : false ≡ true = is in cc);
  reached = λ is. subst (All (MayReachRange (g.S.Holder.bytes c.args.shelf.now))) (take_all c.loop-range.range-index c.args.ranges.now c.loop-range-test.false) c.loop-range.invariant.reached;
  device = tt;
  frame = c.loop-range.invariant.frame;
  counted = c.loop-range.invariant.count;
}
