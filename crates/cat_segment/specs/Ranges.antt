-- The rows of a column whose numbers lie in a range.
use Rattle.std.specs.Prelude.{◌≡◌, ◌&&◌, ℕ, ℤ, Bool, List, Option, None, filter, slice_index_or}
use Rattle.std.specs.declared.cmp.Ordering.{Ordering}
use Rattle.cat_model.specs.Query.{has_some, int_le, open_or}
use Rattle.cat_segment.specs.Orders.{IsOrderBy}

-- it is a number that lies between the two, both included, where an absent end is open
abbrev pub lies_between : Option ℤ → Option ℤ → Option ℤ → Bool
lies_between low high = has_some (λ n. open_or (λ a. int_le a n) low && open_or (int_le n) high)

-- the rows whose values pass the test, each once, as they stand in an order of all rows by this comparison of values
pub record IsOrderWhere {X : Type 0} (cmp : X → X → Ordering) (test : Option X → Bool) (values : List (Option X)) (rows : List ℕ) : Type 0 where
  pub order : List ℕ
  pub all : IsOrderBy cmp values order
  pub passed : rows ≡ filter (λ row. test (slice_index_or values row None)) order
