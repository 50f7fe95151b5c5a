use Rattle.cat_columns.proofs.Same.{rows_decide, apart_decide, sets_decide}
use Rattle.cat_columns.proofs.row_set.RowSetPartialEq.eq.Goals as goal

pub returns-then-self-other-clause-eq : goal.returns-then-self-other-clause-eq
returns-then-self-other-clause-eq c =
    sets_decide c.self.inside.len c.other.inside.len c.self.inside.blocks.items c.other.inside.blocks.items c.args.self.now c.args.other.now c.same_blocks.result
    c.self.invariant c.other.invariant c.self.view_is c.other.view_is c.if-self-other.true c.deref.result.now c.deref-then-self-other.result.now c.deref.ensures.value c.deref-then-self-other.ensures.value c.same_blocks.ensures

pub returns-then-self-other-clause-value : goal.returns-then-self-other-clause-value
returns-then-self-other-clause-value c =
    rows_decide c.args.self.now c.args.other.now c.same_blocks.result (returns-then-self-other-clause-eq c)

pub returns-else-self-other-clause-eq : goal.returns-else-self-other-clause-eq
returns-else-self-other-clause-eq c =
    apart_decide c.self.inside.len c.other.inside.len c.self.inside.blocks.items c.other.inside.blocks.items c.args.self.now c.args.other.now
    c.self.view_is c.other.view_is c.if-self-other.false

pub returns-else-self-other-clause-value : goal.returns-else-self-other-clause-value
returns-else-self-other-clause-value c = rows_decide c.args.self.now c.args.other.now _ (returns-else-self-other-clause-eq c)
