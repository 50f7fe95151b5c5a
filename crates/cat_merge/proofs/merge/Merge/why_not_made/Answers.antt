use Rattle.std.proofs.Common.{◌≡◌, ◌-◌, ◌∙◌, length, true, false, ap, subst, sym, arith}
use Rattle.std.specs.Prelude.{min}
use Rattle.cat_base.specs.declared.refusal.Refusal.TheVariants.{Damaged, Device, Memory}
use Rattle.cat_model.specs.Limits.{step_limit}
use Rattle.cat_model.specs.Merged.{rows_of_all}
use Rattle.cat_merge.specs.Merging.{MergeUnderWay}
use Rattle.cat_merge.specs.Places.{passed_at}
use Rattle.cat_merge.specs.declared.place.Place.{Place}
use Rattle.cat_merge.proofs.files.Judged.{judged_step}
use Rattle.cat_merge.proofs.merge.Merge.why_not_made.Goals as goal

pub returns-in-Ok-true-clause-damaged : goal.returns-in-Ok-true-clause-damaged
returns-in-Ok-true-clause-damaged g c = λ is.
    let merge : MergeUnderWay = c.args.self.now in
    let place : Place = c.self.inside.place in
    let same : c.deref.result.now ≡ merge.inputs = c.deref.ensures.value ∙ ap (λ (m : MergeUnderWay). m.inputs) c.self.view_is in
    let at : passed_at merge.inputs place ≡ merge.passed = subst (λ (m : MergeUnderWay). passed_at m.inputs place ≡ m.passed) c.self.view_is c.self.invariant.so_far in
    let many : c.min-count.result ≡ min step_limit (length (rows_of_all merge.inputs) - merge.passed) = omega (arith, c.min-count.ensures, c.rows_left.ensures) in
    judged_step (g.S.Holder.bytes c.args.shelf.now) merge.inputs c.deref.result.now place merge.passed c.min-count.result c.in-Ok-true.field-0 true same at many c.in-Ok-true.field-0-test
    c.in-Ok-true.ensures.judged

pub returns-in-Ok-false-clause-due : goal.returns-in-Ok-false-clause-due
returns-in-Ok-false-clause-due g c = λ is.
    let merge : MergeUnderWay = c.args.self.now in
    let place : Place = c.self.inside.place in
    let same : c.deref.result.now ≡ merge.inputs = c.deref.ensures.value ∙ ap (λ (m : MergeUnderWay). m.inputs) c.self.view_is in
    let at : passed_at merge.inputs place ≡ merge.passed = subst (λ (m : MergeUnderWay). passed_at m.inputs place ≡ m.passed) c.self.view_is c.self.invariant.so_far in
    let many : c.min-count.result ≡ min step_limit (length (rows_of_all merge.inputs) - merge.passed) = omega (arith, c.min-count.ensures, c.rows_left.ensures) in
    judged_step (g.S.Holder.bytes c.args.shelf.now) merge.inputs c.deref.result.now place merge.passed c.min-count.result c.in-Ok-false.field-0 false same at many c.in-Ok-false.field-0-test
    c.in-Ok-false.ensures.judged

pub returns-in-Ok-true-clause-due : goal.returns-in-Ok-true-clause-due
returns-in-Ok-true-clause-due g c = λ is. absurd (let no : Damaged ≡ Memory = is in cc)

pub returns-in-Ok-true-clause-device : goal.returns-in-Ok-true-clause-device
returns-in-Ok-true-clause-device g c = λ is. absurd (let no : Damaged ≡ Device = is in cc)

pub returns-in-Ok-true-clause-frame : goal.returns-in-Ok-true-clause-frame
returns-in-Ok-true-clause-frame g c = c.lacks_sources.ensures.frame

pub returns-in-Ok-true-clause-counted : goal.returns-in-Ok-true-clause-counted
returns-in-Ok-true-clause-counted g c = c.in-Ok-true.ensures.counted

pub returns-in-Ok-false-clause-damaged : goal.returns-in-Ok-false-clause-damaged
returns-in-Ok-false-clause-damaged g c = λ is. absurd (let no : Memory ≡ Damaged = is in cc)

pub returns-in-Ok-false-clause-device : goal.returns-in-Ok-false-clause-device
returns-in-Ok-false-clause-device g c = λ is. absurd (let no : Memory ≡ Device = is in cc)

pub returns-in-Ok-false-clause-frame : goal.returns-in-Ok-false-clause-frame
returns-in-Ok-false-clause-frame g c = c.lacks_sources.ensures.frame

pub returns-in-Ok-false-clause-counted : goal.returns-in-Ok-false-clause-counted
returns-in-Ok-false-clause-counted g c = c.in-Ok-false.ensures.counted

pub returns-in-Err-clause-damaged : goal.returns-in-Err-clause-damaged
returns-in-Err-clause-damaged g c = λ is. absurd (let no : Device ≡ Damaged = sym c.in-Err.ensures.device.0 ∙ is in cc)

pub returns-in-Err-clause-due : goal.returns-in-Err-clause-due
returns-in-Err-clause-due g c = λ is. absurd (let no : Device ≡ Memory = sym c.in-Err.ensures.device.0 ∙ is in cc)

pub returns-in-Err-clause-device : goal.returns-in-Err-clause-device
returns-in-Err-clause-device g c = λ is. c.in-Err.ensures.device.1

pub returns-in-Err-clause-frame : goal.returns-in-Err-clause-frame
returns-in-Err-clause-frame g c = c.lacks_sources.ensures.frame

pub returns-in-Err-clause-counted : goal.returns-in-Err-clause-counted
returns-in-Err-clause-counted g c = c.in-Err.ensures.counted
