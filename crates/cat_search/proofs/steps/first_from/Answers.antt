use Rattle.std.proofs.Common.{◌≡◌, ◌<◌, ◌+◌, ◌++◌, [], length, sym, ap, ◌∙◌, arith}
use Rattle.std.proofs.lemmas.List.{nil_from_length}
use Rattle.cat_views.specs.cat_segment.RowParts.{parts_of}
use Rattle.cat_search.specs.Steps.{rows_of_parts_from}
use Rattle.cat_search.proofs.Stepped.{rows_step, rows_end}
use Rattle.cat_search.proofs.steps.first_from.Goals as goal

pub part-part-requires : goal.part-part-requires
part-part-requires c = omega (arith, c.loop-index-test.true, c.len.ensures)

pub returns-in-Some : goal.returns-in-Some
returns-in-Some c =
    let i = c.loop-index.index in
    let within : i < length (parts_of c.args.parts.now) = omega (arith, c.loop-index-test.true, c.len.ensures) in
    record {
      within = omega (arith, within);
      rows = c.loop-index.invariant.rows ∙ rows_step c.args.parts.now i within ∙ ap (λ l. l ++ rows_of_parts_from c.args.parts.now (i + 1)) (sym c.part-part.ensures ∙ c.in-Some.ensures.cases.0);
    }

pub loop-index-preserved : goal.loop-index-preserved
loop-index-preserved c =
    let i = c.loop-index.index in
    let within : i < length (parts_of c.args.parts.now) = omega (arith, c.loop-index-test.true, c.len.ensures) in
    let none : c.part-part.result.now ≡ [] = nil_from_length c.part-part.result.now c.in_default.ensures.cases in
    record {
      bound = omega (arith, within);
      rows = c.loop-index.invariant.rows ∙ rows_step c.args.parts.now i within ∙ ap (λ l. l ++ rows_of_parts_from c.args.parts.now (i + 1)) (sym c.part-part.ensures ∙ none);
    }

pub returns : goal.returns
returns c = c.loop-index.invariant.rows ∙ rows_end c.args.parts.now c.loop-index.index (omega (arith, c.loop-index-test.false, c.len.ensures))
