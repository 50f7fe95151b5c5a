use Rattle.std.proofs.Common.{length, refl, subst}
use Rattle.cat_model.specs.Text.{text_cmp}
use Rattle.cat_model.specs.Page.{Key}
use Rattle.cat_views.specs.cat_segment.RowParts.{rows_of_parts}
use Rattle.cat_search.specs.Bars.{HaveRanks}
use Rattle.cat_search.specs.Rows.{keys_by}
use Rattle.cat_search.specs.declared.sort.Order.{Order}
use Rattle.cat_search.proofs.Bars.{keywords_ranked}
use Rattle.cat_search.proofs.Ordered.{rising_walk, falling_walk, standings_rise}
use Rattle.cat_search.proofs.leaf_ranks.LeafRanks.keyword_walk.Goals as goal

pub returns-in-Rising : goal.returns-in-Rising
returns-in-Rising c =
    let rows = c.self.inside.segment.now.rows in
    let ranks = keywords_ranked c.self.inside.order c.self.inside.column c.in_ok-keywords.field-0 c.in-Keyword.keywords c.in-Keyword.keywords rows c.args.self.now (c.in_ok-keywords.was) c.in-Keyword.is refl c.self.invariant c.self.view_is in
    let ranked = subst (λ (o : Order). HaveRanks Key.keyword o c.in-Keyword.keywords c.args.self.now) c.in-Rising.is ranks in
    let up = standings_rise c.self.inside.order (keys_by c.self.inside.column (length rows)) rows c.args.self.now c.len-rows.ensures.rows.rising c.self.view_is in
    rising_walk Key.keyword text_cmp (λ a b. refl) c.in-Rising.field-0 c.in-Keyword.keywords c.args.self.now (rows_of_parts c.rising.result) ranked up c.rising.ensures

pub returns-in-Falling : goal.returns-in-Falling
returns-in-Falling c =
    let rows = c.self.inside.segment.now.rows in
    let ranks = keywords_ranked c.self.inside.order c.self.inside.column c.in_ok-keywords.field-0 c.in-Keyword.keywords c.in-Keyword.keywords rows c.args.self.now (c.in_ok-keywords.was) c.in-Keyword.is refl c.self.invariant c.self.view_is in
    let ranked = subst (λ (o : Order). HaveRanks Key.keyword o c.in-Keyword.keywords c.args.self.now) c.in-Falling.is ranks in
    let up = standings_rise c.self.inside.order (keys_by c.self.inside.column (length rows)) rows c.args.self.now c.len-rows.ensures.rows.rising c.self.view_is in
    falling_walk Key.keyword text_cmp (λ a b. refl) c.in-Falling.field-0 c.in-Keyword.keywords c.args.self.now (rows_of_parts c.falling.result) ranked up c.falling.ensures
