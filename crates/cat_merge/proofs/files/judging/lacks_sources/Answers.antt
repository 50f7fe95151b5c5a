use Rattle.std.proofs.Common.{◌≡◌, ◌∙◌, arith, refl, rules, subst}
use Rattle.cat_base.specs.declared.refusal.Refusal.{Refusal}
use Rattle.cat_base.specs.declared.refusal.Refusal.TheVariants.{Device}
use Rattle.cat_merge.specs.Places.{passed_at, IsRowPlace}
use Rattle.cat_merge.specs.files.Sources.{AreJudged}
use Rattle.cat_merge.proofs.Frames.{reads_none, reads_on}
use Rattle.cat_merge.proofs.Passed.{row_place}
use Rattle.cat_merge.proofs.files.Judged.{judged_more, none_judged}
use Rattle.cat_merge.proofs.files.Ranges.{passed}
use Rattle.cat_merge.proofs.files.judging.lacks_sources.Goals as goal

pub loop-init : goal.loop-init
loop-init g c = record {
  place = c.requires.place;
  passed = omega arith;
  judged = none_judged (g.S.Holder.bytes c.args.shelf.now) c.args.inputs.now (passed_at c.args.inputs.now c.args.from);
  frame = reads_none;
  count = refl;
}

pub is_lacking-requires : goal.is_lacking-requires
is_lacking-requires g c = row_place c.args.inputs.now c.loop.place c.loop.invariant.place (omega (arith, c.loop.invariant.passed, c.requires.room, c.loop-test.true))

pub next-place-requires-clause-place : goal.next-place-requires-clause-place
next-place-requires-clause-place g c = row_place c.args.inputs.now c.loop.place c.loop.invariant.place (omega (arith, c.loop.invariant.passed, c.requires.room, c.loop-test.true))

pub returns-in_err-lacking-clause-device : goal.returns-in_err-lacking-clause-device
returns-in_err-lacking-clause-device g c =
    passed (λ (e : Refusal). (e ≡ Device) × g.S.Holder.can_fail c.args.shelf.now) _ _ c.from_residual.ensures
    (c.in_err-lacking.ensures.device.0, c.loop.invariant.frame.can c.in_err-lacking.ensures.device.1)

pub loop-preserved : goal.loop-preserved
loop-preserved g c =
    let is : IsRowPlace c.args.inputs.now c.loop.place =
    row_place c.args.inputs.now c.loop.place c.loop.invariant.place (omega (arith, c.loop.invariant.passed, c.requires.room, c.loop-test.true)) in
    record {
      place = c.next-place.ensures.place;
      passed = c.next-place.ensures.passed ∙ omega (arith, c.loop.invariant.passed);
      judged = judged_more (g.S.Holder.bytes c.args.shelf.now) (g.S.Holder.bytes c.loop.shelf) c.args.inputs.now (passed_at c.args.inputs.now c.args.from) c.loop.place c.next-place.result
          c.loop.lacking c.in_ok-lacking.lacking c.loop.invariant.frame.same c.requires.inputs is c.next-place.ensures.passed c.loop.invariant.judged c.in_ok-lacking.ensures.cut c.in_ok-lacking.ensures.reached;
      frame = reads_on c.loop.invariant.frame c.in_ok-lacking.ensures.frame;
      count = search rules;
    }

pub returns-clause-judged : goal.returns-clause-judged
returns-clause-judged g c =
    subst (λ n. AreJudged (g.S.Holder.bytes c.args.shelf.now) c.args.inputs.now (passed_at c.args.inputs.now c.args.from) n c.loop.lacking)
    (omega (arith, c.loop.invariant.passed, c.loop.auto.counter-end, c.loop-test.false)) c.loop.invariant.judged
