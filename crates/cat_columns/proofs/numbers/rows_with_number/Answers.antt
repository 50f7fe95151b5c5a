use Rattle.std.proofs.Common.{ℤ, ℕ, ◌+◌, Bool, List, None, arith, get_or, length, subst, sym, ◌∙◌}
use Rattle.std.specs.Prelude.{is_some}
use Rattle.cat_columns.proofs.Fills.{Filled, filled_all, filled_in, filled_none, filled_out}
use Rattle.cat_columns.proofs.numbers.rows_with_number.Goals.{then-is_some, else-is_some}
use Rattle.cat_columns.proofs.numbers.rows_with_number.Goals as goal

pub returns : goal.returns
returns c = record {
  ok = (filled_all (is_some {T = ℤ}) c.args.values.now None _ c.loop-row.set c.loop-row.invariant c.loop-row-test.false);
}

pub none-requires : goal.none-requires
none-requires c = c.requires

pub insert-requires : goal.insert-requires
insert-requires c = omega (arith, c.loop-row.invariant.long, c.loop-row-test.true)

pub loop-row-init : goal.loop-row-init
loop-row-init c = filled_none (λ k. is_some {T = ℤ} (get_or c.args.values.now k None)) (length c.args.values.now) c.in_ok-set.set c.in_ok-set.ensures.ok

pub loop-row-preserved : goal.loop-row-preserved
loop-row-preserved c =
    let p = λ (k : ℕ). is_some {T = ℤ} (get_or c.args.values.now k None) in
    elim c.if-is_some.branch [
      | then-is_some w ↦ filled_in p (length c.args.values.now) c.loop-row.row c.loop-row.set c.if-is_some.set c.loop-row.invariant c.loop-row-test.true (w.set-is ∙ w.insert.ensures) (sym c.is_some.ensures ∙ w.if-is_some.true)
      | else-is_some w ↦ subst (λ (s : List Bool). Filled p (length c.args.values.now) (c.loop-row.row + 1) s) (sym w.set-is) (filled_out p (length c.args.values.now) c.loop-row.row c.loop-row.set c.loop-row.invariant (sym c.is_some.ensures ∙ w.if-is_some.false))
    ]
