use Rattle.std.proofs.Common.{arith, inl, inr, refl}
use Rattle.std.specs.Prelude.{◌≢◌}
use Rattle.cat_base.specs.declared.refusal.Refusal.TheVariants.{Device, Line as NoForm, Memory}
use Rattle.cat_model.specs.Lines.{IsReadable}
use Rattle.cat_model.specs.Served.{Begins}
use Rattle.cat_service.proofs.Begun.{refused_schema, schema_unasked}
use Rattle.cat_service.proofs.opening.asked_by.Goals as goal

formless_differs : NoForm ≢ Device
formless_differs = λ h. cc h

memory_differs : Memory ≢ Device
memory_differs = λ h. cc h

pub returns-then-line-gt-MAX_LINE_BYTES-clause-refused : goal.returns-then-line-gt-MAX_LINE_BYTES-clause-refused
returns-then-line-gt-MAX_LINE_BYTES-clause-refused c = λ told.
    inr (Begins.formless (λ readable factor least text spelled. absurd (omega (arith, readable.short, c.if-line-gt-MAX_LINE_BYTES.true))))

pub returns-then-line-gt-MAX_LINE_BYTES-clause-unasked : goal.returns-then-line-gt-MAX_LINE_BYTES-clause-unasked
returns-then-line-gt-MAX_LINE_BYTES-clause-unasked c = formless_differs

pub returns-in_default-clause-refused : goal.returns-in_default-clause-refused
returns-in_default-clause-refused c = λ told. inr (Begins.formless (λ _ factor least text spelled. c.in_default.ensures.none factor least text spelled))

pub returns-in_default-clause-unasked : goal.returns-in_default-clause-unasked
returns-in_default-clause-unasked c = formless_differs

pub returns-in-Err-clause-refused : goal.returns-in-Err-clause-refused
returns-in-Err-clause-refused c = λ told.
    let readable : IsReadable c.args.line.now = record { short = omega arith; utf8 = c.utf8.line } in
    let found = c.in-Some.found in
    refused_schema told c.args.line.now found.factor found.least found.json.now c.in-Err.refusal c.in-Some.ensures.found
    (rw c.as_bytes.ensures.value at c.in-Err.ensures.err) readable

pub returns-in-Err-clause-unasked : goal.returns-in-Err-clause-unasked
returns-in-Err-clause-unasked c = schema_unasked c.in-Some.found.json.now c.in-Err.refusal (rw c.as_bytes.ensures.value at c.in-Err.ensures.err)

pub returns-in_default-nothing_kept-clause-refused : goal.returns-in_default-nothing_kept-clause-refused
returns-in_default-nothing_kept-clause-refused c = λ told.
    let readable : IsReadable c.args.line.now = record { short = omega arith; utf8 = c.utf8.line } in
    let found = c.in-Some.found in
    inl (refl, (readable, found.factor, found.least, found.json.now, c.in-Some.ensures.found))

pub returns-in_default-nothing_kept-clause-unasked : goal.returns-in_default-nothing_kept-clause-unasked
returns-in_default-nothing_kept-clause-unasked c = memory_differs

pub returns-clause-spelled : goal.returns-clause-spelled
returns-clause-spelled c =
    let readable : IsReadable c.args.line.now = record { short = omega arith; utf8 = c.utf8.line } in
    rw c.policy_of.ensures (readable, c.in-Some.found.json.now, c.in-Some.ensures.found, rw c.as_bytes.ensures.value at c.in-Ok.ensures.ok)

pub returns-clause-kept : goal.returns-clause-kept
returns-clause-kept c = c.in-Ok-nothing_kept.ensures
