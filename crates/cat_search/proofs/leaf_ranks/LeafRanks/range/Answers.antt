use Rattle.std.proofs.Common.{ℕ, ◌∙◌, append-nil, length, refl, subst, sym, IsPermutation}
use Rattle.std.specs.Prelude.{None, slice_index_or}
use Rattle.std.specs.Ordering.{int_cmp}
use Rattle.std.specs.List.{range_with_len}
use Rattle.std.proofs.lemmas.List.Sorted.{IsPermutation-refl}
use Rattle.cat_model.specs.Page.{Key}
use Rattle.cat_views.specs.cat_segment.Ranges.{lies_between}
use Rattle.cat_views.specs.cat_segment.RowParts.{rows_of_parts}
use Rattle.cat_views.specs.cat_segment.declared.row_parts.RowParts.TheVariants.{Whole}
use Rattle.cat_search.specs.Bars.{HaveRanks}
use Rattle.cat_search.specs.Rows.{keys_by}
use Rattle.cat_search.specs.declared.sort.Order.{Order}
use Rattle.cat_search.proofs.Bars.{numbers_ranked}
use Rattle.cat_search.proofs.Ordered.{rising_walk, falling_walk, standings_rise}
use Rattle.cat_search.proofs.InRange.{rising_at, falling_at, passed_alike, walk_where}
use Rattle.cat_search.proofs.leaf_ranks.LeafRanks.range.Goals as goal

pub returns-in-Rising : goal.returns-in-Rising
returns-in-Rising c =
    let rows = c.self.inside.segment.now.rows in
    let ranks = numbers_ranked c.self.inside.order c.self.inside.column c.in_ok-numbers.field-0 c.in-Number.numbers rows c.args.self.now (c.in_ok-numbers.was) c.in-Number.is c.self.invariant c.self.view_is in
    let ranked = subst (λ (o : Order). HaveRanks Key.number o c.in-Number.numbers c.args.self.now) c.in-Rising.is ranks in
    let up = standings_rise c.self.inside.order (keys_by c.self.inside.column (length rows)) rows c.args.self.now c.len-count.ensures.rows.rising c.self.view_is in
    let standings = c.args.self.now in
    let numbers = c.in-Number.numbers in
    let found = c.rising_between-rows.ensures in
    let all = c.rising_between-rows.result.now in
    let walk = rows_of_parts (Whole c.rising_between-rows.result) in
    let same = λ (row : ℕ). rising_at standings numbers row c.in-Rising.field-0 ranked in
    let order = rising_walk Key.number int_cmp (λ a b. refl) c.in-Rising.field-0 numbers standings found.order ranked up found.all in
    record {
      walk = walk_where c.args.low c.args.high standings numbers walk found.order same order (append-nil all ∙ found.passed);
      rows = subst (λ l. IsPermutation l all) (sym (append-nil all)) (IsPermutation-refl all);
    }

pub returns-in-Falling : goal.returns-in-Falling
returns-in-Falling c =
    let rows = c.self.inside.segment.now.rows in
    let ranks = numbers_ranked c.self.inside.order c.self.inside.column c.in_ok-numbers.field-0 c.in-Number.numbers rows c.args.self.now (c.in_ok-numbers.was) c.in-Number.is c.self.invariant c.self.view_is in
    let ranked = subst (λ (o : Order). HaveRanks Key.number o c.in-Number.numbers c.args.self.now) c.in-Falling.is ranks in
    let up = standings_rise c.self.inside.order (keys_by c.self.inside.column (length rows)) rows c.args.self.now c.len-count.ensures.rows.rising c.self.view_is in
    let standings = c.args.self.now in
    let numbers = c.in-Number.numbers in
    let risen = c.rising_between-rows.ensures in
    let found = c.falling_between.ensures in
    let walk = rows_of_parts c.falling_between.result in
    let same = λ (row : ℕ). falling_at standings numbers row c.in-Falling.field-0 ranked in
    let order = falling_walk Key.number int_cmp (λ a b. refl) c.in-Falling.field-0 numbers standings found.order ranked up found.all in
    let inside = λ (row : ℕ). lies_between c.args.low c.args.high (slice_index_or numbers row None) in
    record {
      walk = walk_where c.args.low c.args.high standings numbers walk found.order same order found.passed;
      rows = passed_alike (range_with_len 0 (length numbers)) risen.order found.order c.rising_between-rows.result.now walk inside
          risen.all.rows found.all.rows risen.passed found.passed;
    }
