use Rattle.std.proofs.Common.{◌≡◌, ◌+◌, ◌<◌, ◌≤◌, ℕ, List, Bool, true, not, ap, ap₂, arith, length, subst, sym, ◌∙◌}
use Rattle.std.proofs.lemmas.Bool.Decides.{nat_tests}
use Rattle.std.specs.Prelude.{◌==◌}
use Rattle.cat_segment.specs.NumberRuns.{changes_behind, same_number}
use Rattle.cat_segment.proofs.RunEnds.{EndsBefore, ends_all, ends_kept, ends_marked, ends_none}
use Rattle.cat_segment.proofs.sorted_numbers.run_ends.Goals.{then-not-are_same, else-not-are_same}
use Rattle.cat_segment.proofs.sorted_numbers.run_ends.Goals as goal

at_most_one : (n : ℕ) → (n == 0) ≡ true → n ≤ 1
at_most_one n none =
    let zero : n ≡ 0 = grind (arith, nat_tests) in
    omega (arith, zero)

pub loop-place-preserved : goal.loop-place-preserved
loop-place-preserved c =
    let values = c.args.column.now in
    let rows = c.args.rows.now in
    let place = c.loop-place.place in
    let before = c.loop-place.invariant.0 in
    let within : place < length rows = omega (arith, c.loop-place-test.true) in
    let told : changes_behind values rows place ≡ not c.are_same.result =
    ap₂ (λ a b. not (same_number a b)) (sym c.loop-place.invariant.1) (sym c.number_at-next.ensures) ∙ ap not (sym c.are_same.ensures) in (
      elim c.if-not-are_same.branch [
        | then-not-are_same w ↦
            subst (λ (ends : List Bool). EndsBefore values rows ends (place + 1)) (sym (w.ends-is ∙ w.insert.ensures))
            (ends_marked values rows c.loop-place.ends place before within (told ∙ ap not w.if-not-are_same.true))
        | else-not-are_same w ↦
            subst (λ (ends : List Bool). EndsBefore values rows ends (place + 1)) (sym w.ends-is)
            (ends_kept values rows c.loop-place.ends place before within (told ∙ ap not w.if-not-are_same.false))
      ],
      c.number_at-next.ensures,
    )

pub loop-place-init : goal.loop-place-init
loop-place-init c =
    let values = c.args.column.now in
    let rows = c.args.rows.now in
    (subst (λ (ends : List Bool). EndsBefore values rows ends 0) (sym c.in_ok-ends.ensures.ok) (ends_none values rows), c.number_at-number.ensures)

pub returns : goal.returns
returns c = record {
  ok = ends_all c.args.column.now c.args.rows.now c.loop-place.ends c.loop-place.place c.loop-place.invariant.0 (omega (arith, c.loop-place-test.false));
}

pub returns-then-is_empty : goal.returns-then-is_empty
returns-then-is_empty c =
    let values = c.args.column.now in
    let rows = c.args.rows.now in
    record {
      ok = ends_all values rows c.in_ok-ends.ends 0 (subst (λ (ends : List Bool). EndsBefore values rows ends 0) (sym c.in_ok-ends.ensures.ok) (ends_none values rows)) (at_most_one (length rows) (sym c.is_empty.ensures ∙ c.if-is_empty.true));
    }
