-- What is kept of tables and of views.
use Rattle.std.specs.Prelude.{◌≡◌, ℕ, ◌<◌, ◌≤◌, ◌==◌, Bool, true, false, cond, length, ltb, min, not, List, [], ◌∷◌, filter, Option, None, Some}
use Rattle.std.specs.List.{list_all, AllByRecursion}
use Rattle.cat_model.specs.Item as item
use Rattle.cat_model.specs.Limits.{view_limit}
use Rattle.cat_model.specs.State as state
use Rattle.cat_model.specs.State.{views_without_least_free}

-- the number of each record is below those behind it
abbrev pub NumbersRise : List item.Record → Type 0
NumbersRise [] = Unit {0}
NumbersRise (r ∷ rs) = AllByRecursion (λ s. r.number < s.number) rs × NumbersRise rs

-- The table after so many writes: its numbers rise, and none lies past their count.
pub record IsTable (rs : List item.Record) (count : ℕ) : Type 0 where
  pub rising : NumbersRise rs
  pub seen : AllByRecursion (λ r. r.number ≤ count) rs

-- each item has the parts that the schema asks for
abbrev pub AreItems : item.Schema → List item.Record → Type 0
AreItems schema rs = AllByRecursion (λ r. item.IsItem schema r.item) rs

-- so have those of each view
abbrev pub AreViews : item.Schema → List state.RecordedTable → Type 0
AreViews schema vs = AllByRecursion (λ v. AreItems schema v.table) vs

-- the token is the least that no session holds, or there is none
abbrev pub IsLeastFree : (ℕ → Bool) → List state.RecordedTable → Option ℕ → Type 0
IsLeastFree held vs None = list_all held (state.tokens vs) ≡ true
IsLeastFree held vs (Some t) =
    (state.has_view vs t ≡ true) × (held t ≡ false) × AllByRecursion (λ v. held v.token ≡ false → t ≤ v.token) vs

-- the lesser of a number and another, if there is one
abbrev pub lesser_of : Option ℕ → ℕ → Option ℕ
lesser_of None t = Some t
lesser_of (Some u) t = Some (min u t)

-- the views but for the one of that token
abbrev pub without_token : Option ℕ → List state.RecordedTable → List state.RecordedTable
without_token None vs = vs
without_token (Some t) vs = filter (λ v. not (v.token == t)) vs

-- the views that stay where one more is to be recorded
abbrev pub views_with_room : (ℕ → Bool) → List state.RecordedTable → List state.RecordedTable
views_with_room held vs = cond (ltb (length vs) view_limit) vs (views_without_least_free held vs)
