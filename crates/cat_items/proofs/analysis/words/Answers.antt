use Rattle.std.proofs.Common.{ℕ, ◌<◌, ◌∙◌, length, length-drop, ap, sym, subst, arith, false-eqb, IsUtf8}
use Rattle.std.proofs.lemmas.Str.{IsUtf8-drop}
use Rattle.cat_items.proofs.RunSteps.{front_of, boundary_after_run, boundary_after_skip, words_more}
use Rattle.std.proofs.lemmas.List.Elements.{All-same, All-push}
use Rattle.std.proofs.lemmas.Grind.{common_steps}
use Rattle.cat_model.specs.Forms.{IsWord}
use Rattle.cat_items.proofs.LoweredRuns.{IsWord-run, All-sorted_set}
use Rattle.cat_items.proofs.analysis.words.Goals as goal

pub range_from-rest-requires : goal.range_from-rest-requires
range_from-rest-requires c =
    let front = front_of _ _ _ c.as_bytes.ensures.value c.run_len-len.ensures.in_range c.run_len-len.ensures.all c.run_len-len.ensures.stops in
    λ _. boundary_after_skip _ _ front c.if-len-eq0.true (omega (arith, false-eqb _ 0 c.loop-rest-test.ensures)) c.loop-rest.invariant.utf8

pub loop-rest-preserved : goal.loop-rest-preserved
loop-rest-preserved c =
    let front = front_of _ _ _ c.as_bytes.ensures.value c.run_len-len.ensures.in_range c.run_len-len.ensures.all c.run_len-len.ensures.stops in
    let some : 0 < c.run_len-len.result = omega arith in
    record {
      utf8 = subst IsUtf8 (sym c.split_at.ensures.back) (IsUtf8-drop _ _ c.loop-rest.invariant.utf8 (boundary_after_run _ _ front));
      short = omega (arith, ap length c.split_at.ensures.back, length-drop {A = ℕ});
      forms = All-same IsWord _ _ c.in_ok-push.ensures.items
          (All-push IsWord _ _ c.loop-rest.invariant.forms
          (IsWord-run _ _ _ _ c.in_ok-lowered.ensures.ok c.in_ok-lowered.ensures.utf8 c.split_at.ensures.front front some c.loop-rest.invariant.short));
      done = words_more _ _ _ _ _ _ _ c.in_ok-push.ensures.items c.in_ok-lowered.ensures.ok c.split_at.ensures.front c.split_at.ensures.back front some ∙ c.loop-rest.invariant.done;
    }

pub returns-clause-forms : goal.returns-clause-forms
returns-clause-forms c = All-same IsWord _ _ c.of.ensures (All-sorted_set IsWord _ c.loop-rest.invariant.forms)

pub returns-clause-ok : goal.returns-clause-ok
returns-clause-ok c = grind (arith, common_steps)
