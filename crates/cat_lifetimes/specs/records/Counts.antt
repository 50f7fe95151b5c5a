-- The views as they are kept, each with the number of its holders.
use Rattle.std.specs.Prelude.{◌≡◌, ℕ, ◌+◌, ◌<◌, ◌≤◌, ◌==◌, ◌||◌, ltb, leb, not, Bool, true, List, [], ◌∷◌, length, map, cond}
use Rattle.std.specs.List.{AllByRecursion, filter, flat_map}
use Rattle.cat_model.specs.Limits.{view_limit}
use Rattle.cat_model.specs.State.{Hold, held_in}
use Rattle.cat_model.specs.Files.{Name}
use Rattle.cat_model.specs.View.{View, needs}
use Rattle.cat_lifetimes.specs.records.Records.{Records, has_token, holders_of, stays_in}
use Rattle.cat_lifetimes.specs.declared.records.recorded.Recorded.{Recorded}

-- the views
abbrev pub views_of : List Recorded → List View
views_of rs = map (λ r. r.view) rs

-- the token of the view
abbrev pub recorded_token : Recorded → ℕ
recorded_token r = r.view.token

-- each token is less than those behind it
abbrev pub TokensRise : List Recorded → Type 0
TokensRise [] = Unit {0}
TokensRise (r ∷ rs) = AllByRecursion (λ s. recorded_token r < recorded_token s) rs × TokensRise rs

-- each view has as many holders as there are holds of its token
abbrev pub AreCounted : List Recorded → List Hold → Type 0
AreCounted rs hs = AllByRecursion (λ r. r.holders ≡ holders_of hs (recorded_token r)) rs

-- with one holder more of this token
abbrev pub one_more : ℕ → Recorded → Recorded
one_more t r = record r { holders = r.holders + cond (recorded_token r == t) 1 0 }

-- the view is held, or its token is at least this
abbrev pub is_kept_from : ℕ → Recorded → Bool
is_kept_from t r = ltb 0 r.holders || leb t (recorded_token r)

-- what always holds of views as they are kept, and of the holds
pub record AreKept (rs : List Recorded) (hs : List Hold) : Type 0 where
  pub some : 1 ≤ length rs
  pub few : length rs ≤ view_limit
  pub rising : TokensRise rs
  pub held : (t : ℕ) → held_in hs t ≡ true → has_token (views_of rs) t ≡ true
  pub counted : AreCounted rs hs

-- the names of the files of the views that aren't kept from this token on
abbrev pub files_dropped : ℕ → List Recorded → List Name
files_dropped t rs = flat_map needs (views_of (filter (λ r. not (is_kept_from t r)) rs))

-- a PRUNE n keeps those of the views that are held or have at least this token
abbrev pub KeepsFrom : Records → ℕ → ℕ → Type 0
KeepsFrom r n t = AllByRecursion (λ v. stays_in r n v ≡ (held_in r.holds v.token || leb t v.token)) r.views
