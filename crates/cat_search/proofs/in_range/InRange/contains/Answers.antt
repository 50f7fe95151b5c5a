use Rattle.std.proofs.Common.{◌≡◌, ◌∙◌, length, sym, ap, arith}
use Rattle.std.specs.Prelude.{None, slice_index_or}
use Rattle.std.proofs.lemmas.Grind.{common_steps}
use Rattle.cat_model.specs.RowSets.{has_row}
use Rattle.cat_search.proofs.Tested.{between_long, told_live, told_out}
use Rattle.cat_search.proofs.in_range.InRange.contains.Goals as goal

pub value-number-requires : goal.value-number-requires
value-number-requires c =
    let range = c.self.inside in
    let long : length c.args.self.now ≡ length range.leaf.now.live = ap length (sym c.self.view_is) ∙ between_long range.low range.high range.numbers.now range.leaf.now.live c.self.invariant in
    let same : length c.values.result.now ≡ length range.numbers.now = ap length c.values.ensures in
    omega (arith, c.requires, long, same, c.self.invariant)

pub returns-then-lies_between : goal.returns-then-lies_between
returns-then-lies_between c =
    let range = c.self.inside in
    c.is_live.ensures ∙ ap (λ l. has_row l c.args.row) c.live.ensures.value
    ∙ told_live range.low range.high range.numbers.now range.leaf.now.live c.self.invariant c.args.row c.value-number.result c.lies_between.result (c.value-number.ensures ∙ ap (λ l. slice_index_or l c.args.row None) c.values.ensures) c.lies_between.ensures c.if-lies_between.true
    ∙ ap (λ l. has_row l c.args.row) c.self.view_is

pub returns-else-lies_between : goal.returns-else-lies_between
returns-else-lies_between c =
    let range = c.self.inside in
    told_out range.low range.high range.numbers.now range.leaf.now.live c.self.invariant c.args.row c.value-number.result c.lies_between.result (c.value-number.ensures ∙ ap (λ l. slice_index_or l c.args.row None) c.values.ensures) c.lies_between.ensures c.if-lies_between.false
    ∙ ap (λ l. has_row l c.args.row) c.self.view_is

pub is_live-requires : goal.is_live-requires
is_live-requires c = grind (arith, common_steps)
