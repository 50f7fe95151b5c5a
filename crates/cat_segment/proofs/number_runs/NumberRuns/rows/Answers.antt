use Rattle.std.proofs.Common.{List, ℕ, AllPairs, true, ◌≡◌, ap, drop, subst, sym, take, ◌∙◌}
use Rattle.std.specs.Ordering.{int_cmp}
use Rattle.cat_segment.specs.Orders.{row_before}
use Rattle.cat_segment.specs.RowParts.{rows_of_runs}
use Rattle.cat_segment.proofs.number_runs.NumberRuns.rows.Goals as goal

pub returns : goal.returns
returns c =
    let runs = c.args.self.now in
    let is : c.split_at-2.result.1.now ≡ rows_of_runs runs =
    c.split_at-2.ensures.back ∙ ap (drop runs.from) (c.split_at.ensures.front ∙ ap (take runs.to) c.rising.ensures) in
    record {
      rows = is;
      rising = subst (λ (l : List ℕ). AllPairs (λ a b. row_before int_cmp runs.numbers.now.values a b ≡ true) l) (sym is) runs.rising;
    }
