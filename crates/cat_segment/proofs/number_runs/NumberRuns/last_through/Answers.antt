use Rattle.std.proofs.Common.{◌≡◌, ◌+◌, List, ℕ, Some, ap, get_or, length, arith, subst, sym, take, ◌∙◌}
use Rattle.std.specs.Prelude.{IfSome}
use Rattle.std.specs.List.{flat_map}
use Rattle.cat_segment.specs.NumberRuns.{parts_from_end}
use Rattle.cat_segment.specs.RowParts.{EndsIn, parts_of_runs, rows_of_runs}
use Rattle.cat_segment.proofs.Runs.{ends_through, last_of_part, length-parts, part_behind}
use Rattle.cat_segment.proofs.number_runs.NumberRuns.last_through.Goals as goal

pub returns-then-index-rows : goal.returns-then-index-rows
returns-then-index-rows c =
    let runs = c.args.self.now in
    let values = runs.numbers.now.values in
    let rows = c.rows-rows.result.now in
    subst (λ parts. IfSome (Some (get_or rows c.run_end-end.result 0))
    (λ row. EndsIn (flat_map (λ part. part) (take (c.args.index + 1) parts)) row))
    (ap (λ (l : List ℕ). parts_from_end values l c.args.last.now) c.rows-rows.ensures.rows)
    (ends_through values rows c.rows-rows.ensures.rising c.args.last.now c.args.index c.run_end-end.result c.if-index-rows.true
    c.run_end-end.ensures)

pub returns-else-index-rows : goal.returns-else-index-rows
returns-else-index-rows c =
    let runs = c.args.self.now in
    let last : c.args.index ≡ length (rows_of_runs runs) =
    omega (
      arith,
      c.requires,
      c.if-index-rows.false,
      ap length c.rows-rows.ensures.rows,
      length-parts runs.numbers.now.values (rows_of_runs runs) c.args.last.now,
    ) in
    last_of_part (parts_of_runs runs c.args.last.now) c.args.index c.args.last.now c.copied.result c.requires
    (sym (part_behind runs.numbers.now.values (rows_of_runs runs) c.args.last.now c.args.index last))
    (c.copied.ensures ∙ c.last.ensures.value)
