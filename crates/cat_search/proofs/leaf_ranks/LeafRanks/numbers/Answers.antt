use Rattle.std.proofs.Common.{◌∙◌, sym, ap}
use Rattle.cat_views.specs.cat_segment.declared.column.Column.TheVariants as columns
use Rattle.cat_search.proofs.Bars.{numbers_ranked}
use Rattle.cat_search.proofs.leaf_ranks.LeafRanks.numbers.Goals as goal

pub returns : goal.returns
returns c =
    numbers_ranked c.self.inside.order c.self.inside.column c.in_ok-numbers.field-0 c.values.result.now c.self.inside.segment.now.rows c.args.self.now
    (c.in_ok-numbers.was) (c.in-Number.is ∙ ap columns.Number (sym c.values.ensures)) c.self.invariant c.self.view_is
