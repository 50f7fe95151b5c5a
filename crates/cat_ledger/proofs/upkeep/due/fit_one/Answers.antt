use Rattle.std.proofs.Common.{◌≡◌, true, false, length, ap, arith}
use Rattle.cat_model.specs.View.{Segment}
use Rattle.cat_ledger.proofs.upkeep.Sizes.{next_within}
use Rattle.cat_ledger.proofs.upkeep.due.fit_one.Goals as goal

pub returns-then-rows-room : goal.returns-then-rows-room
returns-then-rows-room c = (
  λ t. absurd (let no : false ≡ true = t in cc),
  λ few. absurd (omega (
    arith,
    few,
    c.loop-leaf.invariant,
    c.if-rows-room.true,
    c.len-rows.ensures.same,
    ap (λ (s : Segment). length s.rows) c.segment.ensures,
    next_within c.args.leaves.now c.loop-leaf.leaf-index c.leaf-item.result c.loop-leaf-test.true c.leaf-item.is,
  )),
)
