use Rattle.std.proofs.Common.{◌<◌, [], ◌∷◌, ◌∙◌, map, drop, sym, subst, arith, refl, false-eqb, IsUtf8}
use Rattle.std.specs.Prelude.{option_map}
use Rattle.std.proofs.lemmas.Str.{IsUtf8-drop}
use Rattle.cat_model.specs.Words.{lowered, runs}
use Rattle.cat_segment.proofs.items_laws.RunSteps.{front_of, boundary_after_run, boundary_after_skip, words_more}
use Rattle.cat_query.proofs.OneWord.{agreed_only, first_run, same_run, other_run, nothing_left}
use Rattle.cat_query.proofs.runs.only_run.Goals as goal

pub range_from-rest-requires : goal.range_from-rest-requires
range_from-rest-requires c =
    let front = front_of _ _ _ c.as_bytes.ensures.value c.run_len-len.ensures.in_range c.run_len-len.ensures.all c.run_len-len.ensures.stops in
    λ _. boundary_after_skip _ _ front c.if-len-eq0.true (omega (arith, false-eqb _ 0 c.loop-rest-test.ensures)) c.loop-rest.invariant.utf8

pub returns-then-not-same_lowered : goal.returns-then-not-same_lowered
returns-then-not-same_lowered c =
    let front = front_of _ _ _ c.as_bytes.ensures.value c.run_len-len.ensures.in_range c.run_len-len.ensures.all c.run_len-len.ensures.stops in
    let some : 0 < c.run_len-len.result = omega arith in
    let begins = words_more [] (lowered c.split_at.result.0.now ∷ []) c.loop-rest.rest.now c.split_at.result.0.now c.split_at.result.1.now (lowered c.split_at.result.0.now) c.run_len-len.result refl refl c.split_at.ensures.front c.split_at.ensures.back front some in
    let found = rw c.in-Some.is at c.loop-rest.invariant.done in
    sym (other_run (lowered c.in-Some.first.now) (lowered c.split_at.result.0.now) (map lowered (runs c.split_at.result.1.now)) (map lowered (runs c.loop-rest.rest.now)) _ begins found c.if-not-same_lowered.ensures)
    ∙ agreed_only (map lowered (runs c.args.text.now))

pub loop-rest-preserved-else-not-same_lowered : goal.loop-rest-preserved-else-not-same_lowered
loop-rest-preserved-else-not-same_lowered c =
    let front = front_of _ _ _ c.as_bytes.ensures.value c.run_len-len.ensures.in_range c.run_len-len.ensures.all c.run_len-len.ensures.stops in
    let some : 0 < c.run_len-len.result = omega arith in
    let begins = words_more [] (lowered c.split_at.result.0.now ∷ []) c.loop-rest.rest.now c.split_at.result.0.now c.split_at.result.1.now (lowered c.split_at.result.0.now) c.run_len-len.result refl refl c.split_at.ensures.front c.split_at.ensures.back front some in
    let found = rw c.in-Some.is at c.loop-rest.invariant.done in
    record {
      utf8 = subst IsUtf8 (sym c.split_at.ensures.back) (IsUtf8-drop _ _ c.loop-rest.invariant.utf8 (boundary_after_run _ _ front));
      done = rw c.in-Some.is (same_run (lowered c.in-Some.first.now) (lowered c.split_at.result.0.now) (map lowered (runs c.split_at.result.1.now)) (map lowered (runs c.loop-rest.rest.now)) _ begins found c.if-not-same_lowered.ensures);
    }

pub loop-rest-preserved : goal.loop-rest-preserved
loop-rest-preserved c =
    let front = front_of _ _ _ c.as_bytes.ensures.value c.run_len-len.ensures.in_range c.run_len-len.ensures.all c.run_len-len.ensures.stops in
    let some : 0 < c.run_len-len.result = omega arith in
    let begins = words_more [] (lowered c.split_at.result.0.now ∷ []) c.loop-rest.rest.now c.split_at.result.0.now c.split_at.result.1.now (lowered c.split_at.result.0.now) c.run_len-len.result refl refl c.split_at.ensures.front c.split_at.ensures.back front some in
    let found = rw c.in_default.is at c.loop-rest.invariant.done in
    record {
      utf8 = subst IsUtf8 (sym c.split_at.ensures.back) (IsUtf8-drop _ _ c.loop-rest.invariant.utf8 (boundary_after_run _ _ front));
      done = first_run [] (lowered c.split_at.result.0.now) (map lowered (runs c.split_at.result.1.now)) (map lowered (runs c.loop-rest.rest.now)) _ begins found;
    }

pub returns : goal.returns
returns c =
    nothing_left (option_map (λ run. lowered run.now) c.loop-rest.found) c.loop-rest.rest.now _ c.loop-rest-test.ensures c.loop-rest.invariant.done
    ∙ agreed_only (map lowered (runs c.args.text.now))
