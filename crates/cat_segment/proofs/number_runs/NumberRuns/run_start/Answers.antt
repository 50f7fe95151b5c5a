use Rattle.std.proofs.Common.{◌≡◌, ◌-◌, ◌∙◌, None, List, ℕ, true, false, get_or, not, rules, tests, arith, subst, sym}
use Rattle.std.specs.List.Sorted.{IsPartitionPoint, IsPartitionedBy}
use Rattle.std.proofs.lemmas.List.Sorted.{IsPartitionPoint-from_clause}
use Rattle.cat_segment.specs.NumberRuns.{ends_run, number_at_place, same_number}
use Rattle.cat_segment.proofs.Runs.{rises, apart_turned, later_differs, first_alone, parted_front, row_alone, run_from}
use Rattle.cat_segment.proofs.number_runs.NumberRuns.run_start.Goals.{then-place-eq0-via-then-place-eq0}
use Rattle.cat_segment.proofs.number_runs.NumberRuns.run_start.Goals.{then-place-eq0-via-else-place-eq0+then-is_run_end}
use Rattle.cat_segment.proofs.number_runs.NumberRuns.run_start.Goals as goal

pub returns-then-place-eq0-clause-run : goal.returns-then-place-eq0-clause-run
returns-then-place-eq0-clause-run c =
    let values = c.args.self.now.numbers.now.values in
    let rows = c.args.rows.now in
    let place = c.args.place in
    let rising = rises c.args.self.now rows c.requires.rows in
    elim c.then-place-eq0.branch [
      | then-place-eq0-via-then-place-eq0 w ↦ first_alone values rows rising place c.requires.within w.if-place-eq0.true
      | then-place-eq0-via-else-place-eq0+then-is_run_end w ↦
          row_alone values rows rising place c.requires.within (omega (arith, w.if-place-eq0.false))
          (apart_turned (number_at_place values rows (place - 1)) (number_at_place values rows place)
          (later_differs values rows rising (place - 1) place (omega (arith, w.if-place-eq0.false)) c.requires.within
          (subst (λ l. ends_run values l (place - 1) ≡ true) (sym c.requires.rows) (sym w.is_run_end.ensures ∙ w.if-is_run_end.true))))
    ]

pub returns-clause-run : goal.returns-clause-run
returns-clause-run c =
    let values = c.args.self.now.numbers.now.values in
    let rows = c.args.rows.now in
    let place = c.args.place in
    let n = c.partition_point.result in
    let front = c.split_at.ensures.front in
    let parted = subst (IsPartitionedBy (λ row. not (same_number (number_at_place values rows place) (get_or values row None)))) (sym front)
    (parted_front values rows (rises c.args.self.now c.args.rows.now c.requires.rows) place c.requires.within) in
    let point = IsPartitionPoint-from_clause
    (λ row. not (same_number (number_at_place values rows place)
    (get_or values row None))) c.split_at.result.0.now n c.partition_point.ensures.partitioned parted
    (λ x r q k. search (rules, tests)) in
    run_from values rows (rises c.args.self.now c.args.rows.now c.requires.rows) place n c.requires.within
    (omega (arith, c.partition_point.ensures.bound, c.split_at.ensures.front_len))
    (subst (λ (l : List ℕ). IsPartitionPoint (λ y. not (same_number (number_at_place values rows place) (get_or values y None)) ≡ true)
    (λ y. not (same_number (number_at_place values rows place) (get_or values y None)) ≡ false) l n) front point)
