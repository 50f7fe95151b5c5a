use Rattle.std.proofs.Common.{inr, arith}
use Rattle.cat_model.specs.Lines.{IsReadable}
use Rattle.cat_model.specs.Served.{Begins}
use Rattle.cat_service_tests.proofs.plain.catalogue.Openings.{refused_schema, opened_plain}
use Rattle.cat_service_tests.proofs.plain.catalogue.Plain.open.Goals as goal

pub returns-then-line-gt-MAX_LINE_BYTES : goal.returns-then-line-gt-MAX_LINE_BYTES
returns-then-line-gt-MAX_LINE_BYTES c = inr (Begins.formless (λ readable factor least text spelled. absurd (omega (arith, readable.short))))

pub returns-in_default : goal.returns-in_default
returns-in_default c = inr (Begins.formless (λ _ factor least text spelled. c.in_default.ensures.none factor least text spelled))

pub returns-in_err-schema : goal.returns-in_err-schema
returns-in_err-schema c =
    let readable : IsReadable c.args.line.now = record { short = omega arith; utf8 = c.utf8.line } in
    let read = rw c.as_bytes.ensures.value at c.in_err-schema.ensures.err in
    refused_schema c.args.line.now c.in-Some.found.factor c.in-Some.found.least c.in-Some.found.json.now c.in_err-schema.field-0.0 c.from_residual.result
    c.from_residual.ensures.1 c.in-Some.ensures.found read readable

pub returns : goal.returns
returns c =
    let readable : IsReadable c.args.line.now = record { short = omega arith; utf8 = c.utf8.line } in
    let read = rw c.as_bytes.ensures.value at c.in_ok-schema.ensures.ok in
    opened_plain c.args.line.now c.in-Some.found.factor c.in-Some.found.least c.in-Some.found.json.now c.in_ok-schema.schema c.in_ok-new.field-0 c.in-Some.ensures.found
    read c.in_ok-new.ensures.fresh c.in_ok-new.ensures.empty readable
