-- Queries that are put to views.
use Rattle.std.specs.Prelude.{◌≡◌, ◌≤◌, true, List, map, Result}
use Rattle.cat_base.specs.declared.refusal.Refusal.{Refusal}
use Rattle.cat_model.specs.Answer.{Found, answer, can_sort, has_mark}
use Rattle.cat_model.specs.Item.{Record}
use Rattle.cat_model.specs.Limits.{page_limit}
use Rattle.cat_model.specs.View.{View, Shows, rows_in}
use Rattle.cat_query.specs.declared.query.Query.{Query}
use Rattle.cat_query.specs.View.{query_of}
use Rattle.cat_search.specs.declared.ask.Ask.{Ask}
use Rattle.cat_search.specs.declared.ask.Wanted.{Wanted}
use Rattle.cat_search.specs.Asks.{read_of}
use Rattle.cat_search.specs.Candidates.{mark_standing}
use Rattle.cat_search.specs.Rows.{bare_record, mark_in_rows}
use Rattle.cat_search.specs.Sorts.{IsOrderOf, sort_of}

-- a query, and the view that it is put to
pub record Prepared : Type 0 where
  pub view : View
  pub query : Query

-- the answer to the ask over records
abbrev pub answer_over : Prepared → Ask → List Record → Result Found Refusal
answer_over p ask rs = answer p.view.schema rs (read_of ask (query_of p.query))

-- the ask is one that isn't refused over the view, and its order, its mark and its count are found
pub record IsWantedOf (view : View) (ask : Ask) (wanted : Wanted) : Type 0 where
  pub count : wanted.count ≡ ask.count
  pub few : ask.count ≤ page_limit
  pub sorts : can_sort view.schema (sort_of ask.sort) ≡ true
  pub order : IsOrderOf view.schema (sort_of ask.sort) wanted.order
  pub has : has_mark (map bare_record (rows_in view)) ask.after ≡ true
  pub mark : mark_standing wanted.mark ≡ mark_in_rows wanted.order (rows_in view) ask.after

-- it is the answer to the ask over whatever records the view shows
abbrev pub IsAnswerTo : Prepared → Ask → Result Found Refusal → Type 0
IsAnswerTo p ask found = (rs : List Record) → Shows p.view rs → answer_over p ask rs ≡ found

-- ---- the law

-- some records have these rows
abbrev pub ViewsShowRecords : Type 0
ViewsShowRecords = (view : View) → (rs : List Record) × Shows view rs
