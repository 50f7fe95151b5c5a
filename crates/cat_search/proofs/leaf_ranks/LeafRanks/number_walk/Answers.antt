use Rattle.std.proofs.Common.{length, refl, subst, sym, append-nil}
use Rattle.std.specs.Ordering.{int_cmp}
use Rattle.cat_model.specs.Page.{Key}
use Rattle.cat_views.specs.cat_segment.RowParts.{rows_of_parts}
use Rattle.cat_search.specs.Bars.{HaveRanks}
use Rattle.cat_search.specs.Rows.{keys_by}
use Rattle.cat_search.specs.Walks.{IsWalk}
use Rattle.cat_search.specs.declared.sort.Order.{Order}
use Rattle.cat_search.proofs.Bars.{numbers_ranked}
use Rattle.cat_search.proofs.Ordered.{rising_walk, falling_walk, standings_rise}
use Rattle.cat_search.proofs.leaf_ranks.LeafRanks.number_walk.Goals as goal

pub returns-in-Rising : goal.returns-in-Rising
returns-in-Rising c =
    let rows = c.self.inside.segment.now.rows in
    let ranks = numbers_ranked c.self.inside.order c.self.inside.column c.in_ok-numbers.field-0 c.in-Number.numbers rows c.args.self.now (c.in_ok-numbers.was) c.in-Number.is c.self.invariant c.self.view_is in
    let ranked = subst (λ (o : Order). HaveRanks Key.number o c.in-Number.numbers c.args.self.now) c.in-Rising.is ranks in
    let up = standings_rise c.self.inside.order (keys_by c.self.inside.column (length rows)) rows c.args.self.now c.len-rows.ensures.rows.rising c.self.view_is in
    subst (IsWalk c.args.self.now) (sym (append-nil c.rising.result.now)) (rising_walk Key.number int_cmp (λ a b. refl) c.in-Rising.field-0 c.in-Number.numbers c.args.self.now c.rising.result.now ranked up c.rising.ensures)

pub returns-in-Falling : goal.returns-in-Falling
returns-in-Falling c =
    let rows = c.self.inside.segment.now.rows in
    let ranks = numbers_ranked c.self.inside.order c.self.inside.column c.in_ok-numbers.field-0 c.in-Number.numbers rows c.args.self.now (c.in_ok-numbers.was) c.in-Number.is c.self.invariant c.self.view_is in
    let ranked = subst (λ (o : Order). HaveRanks Key.number o c.in-Number.numbers c.args.self.now) c.in-Falling.is ranks in
    let up = standings_rise c.self.inside.order (keys_by c.self.inside.column (length rows)) rows c.args.self.now c.len-rows.ensures.rows.rising c.self.view_is in
    let walk = rows_of_parts c.falling.result in
    falling_walk Key.number int_cmp (λ a b. refl) c.in-Falling.field-0 c.in-Number.numbers c.args.self.now walk ranked up c.falling.ensures
