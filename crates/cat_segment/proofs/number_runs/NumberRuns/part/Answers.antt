use Rattle.std.proofs.Common.{◌≡◌, ◌<◌, ◌-◌, List, ℕ, ap, length, arith, subst, sym, ◌∙◌}
use Rattle.cat_segment.specs.NumberRuns.{run_at}
use Rattle.cat_segment.specs.RowParts.{rows_of_runs}
use Rattle.cat_segment.proofs.Runs.{length-parts, part_at, part_behind}
use Rattle.cat_segment.proofs.number_runs.NumberRuns.part.Goals as goal

pub returns-then-index-rows : goal.returns-then-index-rows
returns-then-index-rows c =
    let runs = c.args.self.now in
    let within = subst (λ (l : List ℕ). c.args.index < length l) c.rows-rows.ensures.rows c.if-index-rows.true in
    c.run_ending_at.ensures ∙ ap (λ (l : List ℕ). run_at runs.numbers.now.values l (length l - 1 - c.args.index)) c.rows-rows.ensures.rows
    ∙ sym (part_at runs.numbers.now.values (rows_of_runs runs) c.args.last.now c.args.index within)

pub returns-else-index-rows : goal.returns-else-index-rows
returns-else-index-rows c =
    let runs = c.args.self.now in
    let last : c.args.index ≡ length (rows_of_runs runs) =
    omega (
      arith,
      c.requires,
      c.if-index-rows.false,
      ap length c.rows-rows.ensures.rows,
      length-parts runs.numbers.now.values (rows_of_runs runs) c.args.last.now,
    ) in
    sym (part_behind runs.numbers.now.values (rows_of_runs runs) c.args.last.now c.args.index last)
