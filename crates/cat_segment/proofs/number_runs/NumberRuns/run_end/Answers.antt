use Rattle.std.proofs.Common.{None, List, ℕ, ◌≡◌, true, false, ◌≤◌, length, get_or, rules, tests, subst, sym}
use Rattle.std.specs.List.Sorted.{IsPartitionPoint, IsPartitionedBy}
use Rattle.std.proofs.lemmas.List.Sorted.{IsPartitionPoint-from_clause}
use Rattle.cat_segment.specs.NumberRuns.{number_at_place, same_number}
use Rattle.cat_segment.proofs.Runs.{rises, parted_back, run_ends}
use Rattle.cat_segment.proofs.number_runs.NumberRuns.run_end.Goals as goal

pub returns : goal.returns
returns c =
    let values = c.args.self.now.numbers.now.values in
    let rows = c.args.rows.now in
    let place = c.args.place in
    let n = c.partition_point.result in
    let back = c.split_at.ensures.back in
    let parted = subst (IsPartitionedBy (λ row. same_number (number_at_place values rows place) (get_or values row None))) (sym back)
    (parted_back values rows (rises c.args.self.now c.args.rows.now c.requires.rows) place c.requires.within) in
    let point = IsPartitionPoint-from_clause
    (λ row. same_number (number_at_place values rows place)
    (get_or values row None)) c.split_at.result.1.now n c.partition_point.ensures.partitioned parted
    (λ x r q k. search (rules, tests)) in
    run_ends values rows (rises c.args.self.now c.args.rows.now c.requires.rows) place n c.requires.within
    (subst (λ (l : List ℕ). n ≤ length l) back c.partition_point.ensures.bound)
    (subst (λ (l : List ℕ). IsPartitionPoint (λ y. same_number (number_at_place values rows place) (get_or values y None) ≡ true)
    (λ y. same_number (number_at_place values rows place) (get_or values y None) ≡ false) l n) back point)
