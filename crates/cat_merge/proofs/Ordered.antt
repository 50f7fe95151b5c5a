-- The rows of an input in the order of a number field.
use Rattle.std.proofs.Common.{◌≡◌, ℕ, ℤ, List, Option, length, refl, ap, ◌∙◌, subst}
use Rattle.std.specs.Ordering.{int_cmp}
use Rattle.std.proofs.lemmas.List.{length-map}
use Rattle.cat_model.specs.Item.{Content, number_in}
use Rattle.cat_model.specs.View.{Row}
use Rattle.cat_views.specs.cat_segment.Contents.{contents_of}
use Rattle.cat_views.specs.cat_segment.Index.{AreAllRows}
use Rattle.cat_views.specs.cat_segment.Laid.{contents_under}
use Rattle.cat_views.specs.cat_segment.Orders.{IsOrderBy}
use Rattle.cat_views.specs.cat_segment.declared.column.Column.TheVariants as columns
use Rattle.cat_merge.proofs.Read.{values_told}

-- they are all of its rows
pub number_rows : (index : ℕ) (rows : List Row) (values : List (Option ℤ)) (order : List ℕ) → contents_of (columns.Number values) ≡ contents_under index rows → IsOrderBy int_cmp values order
    → AreAllRows (length rows) order
number_rows index rows values order told are =
    let same : length values ≡ length rows = ap length (values_told Content.number number_in (λ n. refl) index rows values told) ∙ length-map rows _ in
    subst (λ n. AreAllRows n order) same are.rows
