use Rattle.std.proofs.lemmas.Result.{IfOk-from_err}
use Rattle.cat_merge.specs.Copied.{bytes_in}
use Rattle.std.proofs.lemmas.List.{take_all}
use Rattle.std.specs.List.{flat_map}
use Rattle.std.proofs.Common.{◌≡◌, ◌++◌, get_or, ◌∙◌, ap, List, length, map, take, arith}
use Rattle.std.specs.Prelude.{Any, sum}
use Rattle.cat_base.specs.declared.refusal.Refusal.{Refusal}
use Rattle.cat_base.specs.declared.refusal.Refusal.TheVariants.{Damaged, Device, Memory}
use Rattle.cat_merge.specs.declared.sources.SourceRange.{SourceRange}
use Rattle.cat_model.specs.Text.{Text}
use Rattle.cat_merge.specs.files.Sources.{IsCutOff, TellsAll, sources_told}
use Rattle.cat_merge.proofs.Frames.{reads_on}
use Rattle.cat_merge.proofs.files.Ranges.{passed, read_more, lens_more, some_cut_off, no_range, at_index, fails_after, fails_on, not_answered, counts_passed}
use Rattle.cat_merge.proofs.files.sources.read_ranges.Goals as goal

pub returns-in_err-more-clause-damaged : goal.returns-in_err-more-clause-damaged
returns-in_err-more-clause-damaged g c =
    passed (λ (e : Refusal). e ≡ Damaged → Any (IsCutOff (g.S.Holder.bytes c.args.shelf.now)) c.args.ranges.now) _ _ c.from_residual.ensures
    (λ is. some_cut_off (g.S.Holder.bytes c.args.shelf.now) (g.S.Holder.bytes c.loop-range.shelf) c.args.ranges.now c.loop-range.range-index (get_or c.args.ranges.now c.loop-range.range-index no_range)
    c.loop-range.invariant.frame.same c.loop-range-test.true (at_index c.args.ranges.now c.loop-range.range-index no_range c.loop-range-test.true) (c.in_err-more.ensures.damaged is))

pub loop-range-preserved : goal.loop-range-preserved
loop-range-preserved g c =
    let joined : c.extend_from_slice.new.self.items ≡ c.loop-range.bytes.items ++ c.in_ok-more.more.items =
    c.in_ok-extend_from_slice.ensures.items ∙ ap (λ (l : Text). c.loop-range.bytes.items ++ l) c.deref.ensures.value in
    let range : SourceRange = get_or c.args.ranges.now c.loop-range.range-index no_range in
    let at : range ≡ get_or c.args.ranges.now c.loop-range.range-index range = at_index c.args.ranges.now c.loop-range.range-index no_range c.loop-range-test.true in
    record {
      read = read_more (g.S.Holder.bytes c.args.shelf.now) (g.S.Holder.bytes c.loop-range.shelf) c.args.ranges.now c.loop-range.range-index range c.loop-range.bytes.items c.in_ok-more.more.items
          c.extend_from_slice.new.self.items c.loop-range.invariant.frame.same c.loop-range-test.true at c.loop-range.invariant.read c.in_ok-more.ensures.ok joined;
      long = lens_more c.args.ranges.now c.loop-range.range-index range c.loop-range.bytes.items c.in_ok-more.more.items c.extend_from_slice.new.self.items
          c.loop-range-test.true at c.loop-range.invariant.long c.in_ok-more.ensures.len joined;
      frame = reads_on c.loop-range.invariant.frame c.in_ok-more.ensures.frame;
      count = c.in_ok-more.ensures.fails.counted ∙ c.loop-range.invariant.count;
    }

pub returns-in_err-more-clause-ok : goal.returns-in_err-more-clause-ok
returns-in_err-more-clause-ok g c =
    not_answered (λ v. TellsAll (g.S.Holder.bytes c.args.shelf.now) → v.items ≡ flat_map (bytes_in (sources_told (g.S.Holder.bytes c.args.shelf.now))) c.args.ranges.now) _ _ c.from_residual.ensures

pub returns-in_err-more-clause-len : goal.returns-in_err-more-clause-len
returns-in_err-more-clause-len g c = not_answered (λ v. length v.items ≡ sum (map (λ (r : SourceRange). r.len) c.args.ranges.now)) _ _ c.from_residual.ensures

pub returns-in_err-more-clause-frame : goal.returns-in_err-more-clause-frame
returns-in_err-more-clause-frame g c = reads_on c.loop-range.invariant.frame c.in_err-more.ensures.frame

pub returns-in_err-more-clause-fails : goal.returns-in_err-more-clause-fails
returns-in_err-more-clause-fails g c = fails_after c.loop-range.invariant.frame.can c.loop-range.invariant.count (fails_on c.from_residual.ensures c.in_err-more.ensures.fails)

pub returns-in_err-extend_from_slice-clause-frame : goal.returns-in_err-extend_from_slice-clause-frame
returns-in_err-extend_from_slice-clause-frame g c = reads_on c.loop-range.invariant.frame c.in_ok-more.ensures.frame

pub returns : goal.returns
returns g c =
    let all : take c.loop-range.range-index c.args.ranges.now ≡ c.args.ranges.now = take_all c.loop-range.range-index c.args.ranges.now (omega arith) in
    record {
      ok = λ tells. c.loop-range.invariant.read tells ∙ ap (flat_map (bytes_in (sources_told (g.S.Holder.bytes c.args.shelf.now)))) all;
      len = c.loop-range.invariant.long ∙ ap (λ (l : List SourceRange). sum (map (λ (r : SourceRange). r.len) l)) all;
      damaged = tt;
      frame = c.loop-range.invariant.frame;
      fails = record { device = tt; counted = c.loop-range.invariant.count };
    }

pub returns-in_err-extend_from_slice-clause-ok : goal.returns-in_err-extend_from_slice-clause-ok
returns-in_err-extend_from_slice-clause-ok g c = IfOk-from_err _ _ c.from_residual-in_err-extend_from_slice.ensures.0

pub returns-in_err-extend_from_slice-clause-len : goal.returns-in_err-extend_from_slice-clause-len
returns-in_err-extend_from_slice-clause-len g c = IfOk-from_err _ _ c.from_residual-in_err-extend_from_slice.ensures.0

pub returns-in_err-extend_from_slice-clause-damaged : goal.returns-in_err-extend_from_slice-clause-damaged
returns-in_err-extend_from_slice-clause-damaged g c =
    passed (λ (e : Refusal). e ≡ Damaged → Any (IsCutOff (g.S.Holder.bytes c.args.shelf.now)) c.args.ranges.now) _ Memory c.from_residual-in_err-extend_from_slice.ensures (λ is. absurd (let no : Memory ≡ Damaged = is in cc))

pub returns-in_err-extend_from_slice-clause-fails : goal.returns-in_err-extend_from_slice-clause-fails
returns-in_err-extend_from_slice-clause-fails g c =
    record {
      device = passed (λ (e : Refusal). e ≡ Device → g.S.Holder.can_fail c.args.shelf.now) _ Memory c.from_residual-in_err-extend_from_slice.ensures (λ is. absurd (let no : Memory ≡ Device = is in cc));
      counted = counts_passed (g.S.Holder.fault_count c.args.shelf.now) (g.S.Holder.fault_count c.read_range.new.shelf) _ Memory c.from_residual-in_err-extend_from_slice.ensures (c.in_ok-more.ensures.fails.counted ∙ c.loop-range.invariant.count);
    }
