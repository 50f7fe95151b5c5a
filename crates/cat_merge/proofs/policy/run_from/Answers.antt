use Rattle.std.proofs.Common.{arith, inl, inr}
use Rattle.std.proofs.lemmas.Grind.{elements}
use Rattle.cat_merge.proofs.Runs.{begins_at, grows_at, moves_at, last_within, rows_fit}
use Rattle.cat_merge.proofs.policy.run_from.Goals as goal
use Rattle.cat_merge.proofs.policy.run_from.Goals.{then-next-eq0-via-then-next-eq0, then-next-eq0-via-else-next-eq0+then-next-level}

pub returns-then-next-eq0 : goal.returns-then-next-eq0
returns-then-next-eq0 c =
    begins_at c.args.factor c.args.minimum c.args.sizes.now c.args.index c.level_of-level.result c.from-rows.result c.args.next
    (omega arith) c.requires.within c.from-rows.ensures c.requires.next c.level_of-level.ensures
    (elim c.then-next-eq0.branch [
      | then-next-eq0-via-then-next-eq0 w ↦ inl w.if-next-eq0.true
      | then-next-eq0-via-else-next-eq0+then-next-level w ↦ inr w.if-next-level.true
    ])

pub returns-then-next-factor : goal.returns-then-next-factor
returns-then-next-factor c =
    grows_at c.args.factor c.args.minimum c.args.sizes.now c.args.index c.level_of-level.result c.from-rows.result c.args.next
    c.requires.within c.from-rows.ensures c.requires.next c.level_of-level.ensures c.if-next-level.false c.if-next-factor.true

pub overflow_add-result-then-next-factor : goal.overflow_add-result-then-next-factor
overflow_add-result-then-next-factor c =
    omega (
      arith,
      rows_fit c.args.factor c.args.minimum c.args.sizes.now c.args.index c.args.next c.requires.policy.few
          (λ i. omega (arith, c.type_inv.sizes i)) c.requires.next,
    )

pub overflow_add-result-2 : goal.overflow_add-result-2
overflow_add-result-2 c =
    omega (
      arith,
      rows_fit c.args.factor c.args.minimum c.args.sizes.now c.args.index c.args.next c.requires.policy.few
          (λ i. omega (arith, c.type_inv.sizes i)) c.requires.next,
    )

pub overflow_sub-result : goal.overflow_sub-result
overflow_sub-result c = omega (
  arith,
  last_within c.args.factor c.args.minimum c.args.sizes.now c.args.index c.from-last.result c.args.next
      c.from-last.ensures c.requires.next (omega arith),
)

pub returns : goal.returns
returns c =
    moves_at c.args.factor c.args.minimum c.args.sizes.now c.args.index c.level_of-level.result c.from-rows.result c.from-last.result c.args.next
    c.requires.within c.from-rows.ensures c.from-last.ensures c.requires.next c.level_of-level.ensures c.if-next-level.false c.if-next-factor.false (omega arith)

pub bounds-sizes-index-3 : goal.bounds-sizes-index-3
bounds-sizes-index-3 c = grind (arith, elements)
