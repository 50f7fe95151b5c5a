use Rattle.std.proofs.Common.{◌≡◌, ◌<◌, sym, ◌∙◌, ap, subst, arith, length}
use Rattle.cat_columns.specs.Bits.{rows_left}
use Rattle.cat_columns.specs.declared.scan.Rows.TheInside.{Inside}
use Rattle.cat_columns.proofs.Scans.{rows_left-none, rows_left-block, rows_left-row}
use Rattle.cat_columns.proofs.scan.RowsIterator.next.Goals as goal
use Rattle.cat_columns.proofs.scan.RowsIterator.next.Goals.{then-self-eq0+in-Some, else-self-eq0}

pub returns-in-None-clause-steps : goal.returns-in-None-clause-steps
returns-in-None-clause-steps c =
    let none = sym c.self.view_is ∙ rows_left-none c.self.inside.blocks.now c.self.inside.index c.self.inside.left c.if-self-eq0.true c.in-None.ensures in (none, none)

pub returns-clause-steps : goal.returns-clause-steps
returns-clause-steps c =
    let in_hand : (rows_left c.self.inside.blocks.now c.self.inside.index c.self.inside.left
    ≡ rows_left c.if-self-eq0.self-inside.blocks.now c.if-self-eq0.self-inside.index c.if-self-eq0.self-inside.left)
    × (c.if-self-eq0.self-inside.index < length c.if-self-eq0.self-inside.blocks.now) =
    elim c.if-self-eq0.branch [
      | then-self-eq0+in-Some w ↦
          let is = w.in-Some.ensures in (
            rows_left-block c.self.inside.blocks.now c.self.inside.index c.self.inside.left w.in-Some.index w.in-Some.block w.if-self-eq0.true is
                ∙ ap (λ (i : Inside). rows_left i.blocks.now i.index i.left) (sym w.self-inside-is),
            subst (λ (i : Inside). i.index < length i.blocks.now) (sym w.self-inside-is) is.within,
          )
      | else-self-eq0 w ↦ (
        ap (λ (i : Inside). rows_left i.blocks.now i.index i.left) (sym w.self-inside-is),
        subst (λ (i : Inside). i.index < length i.blocks.now) (sym w.self-inside-is) (c.self.invariant.2 (omega (arith, w.if-self-eq0.false))),
      )
    ] in
    sym c.self.view_is ∙ in_hand.0
    ∙ rows_left-row c.if-self-eq0.self-inside.blocks.now c.if-self-eq0.self-inside.index c.if-self-eq0.self-inside.left c.lowest_bit.result in_hand.1 c.lowest_bit.ensures

pub returns-clause-goes : goal.returns-clause-goes
returns-clause-goes c =
    let step = ap length (returns-clause-steps c) in record { on = λ _. (tt, tt, omega (arith, step)); keeps = tt; rests = λ _. tt }
