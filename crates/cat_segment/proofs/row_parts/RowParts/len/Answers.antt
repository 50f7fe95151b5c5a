use Rattle.std.proofs.Common.{◌≡◌, ◌+◌, [], inl, inr, List, ℕ, ap, length, sym, ◌∙◌, arith}
use Rattle.std.proofs.lemmas.Grind.{elements}
use Rattle.cat_segment.specs.RowParts.{parts_of, parts_of_runs, rows_behind, rows_of_runs}
use Rattle.cat_segment.proofs.Runs.{length-parts}
use Rattle.cat_segment.proofs.row_parts.RowParts.len.Goals as goal

pub returns-in-Runs : goal.returns-in-Runs
returns-in-Runs c =
    let runs = c.in-Runs.runs in
    let many : (last : List ℕ) → c.len.result + 1 ≡ length (parts_of_runs runs last) =
    λ last. ap (λ n. n + 1) c.len.ensures ∙ sym (length-parts runs.numbers.now.values (rows_of_runs runs) last) in
    elim c.in-Runs.is [
      | inl e ↦ many [] ∙ ap (λ parts. length (parts_of parts)) (sym e)
      | inr e ↦ many (rows_behind runs) ∙ ap (λ parts. length (parts_of parts)) (sym e)
    ]

pub overflow_add-result-in-Runs : goal.overflow_add-result-in-Runs
overflow_add-result-in-Runs c = grind (arith, elements)

pub returns-in-Rising : goal.returns-in-Rising
returns-in-Rising c = grind (arith, elements)

pub returns-in-Falling : goal.returns-in-Falling
returns-in-Falling c = grind (arith, elements)
