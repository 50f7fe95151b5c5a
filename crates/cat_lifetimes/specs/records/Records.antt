-- The recorded views and the sessions' holds of them, and what each call makes of them.
use Rattle.std.specs.Prelude.{◌≡◌, ◌≢◌, ℕ, ◌<◌, ◌≤◌, ◌==◌, ◌&&◌, not, Bool, true, List, [], ◌∷◌, ◌++◌, length, filter, cond, count_by, AllPairs}
use Rattle.std.specs.List.{list_any}
use Rattle.cat_model.specs.Limits.{view_limit}
use Rattle.cat_model.specs.State.{Hold, has_hold, held_in}
use Rattle.cat_model.specs.View.{View}
use Rattle.cat_ledger_laws.specs.model.Calls.{stays_pruned, stays_recorded}
use Rattle.cat_ledger_laws.specs.shape.Steps.{tokens_of}

-- the recorded views in rising order of token, and the holds in the order in which they began
pub record Records : Type 0 where
  pub views : List View
  pub holds : List Hold

-- one of the views has the token
abbrev pub has_token : List View → ℕ → Bool
has_token views t = list_any (λ v. v.token == t) views

-- how many sessions hold the token
abbrev pub holders_of : List Hold → ℕ → ℕ
holders_of holds t = count_by (λ h. h.token == t) holds

-- Some view is recorded, and at most as many as may be; their tokens rise, each held token has a view, and no session holds
-- a token twice.
pub record AreRecords (r : Records) : Type 0 where
  pub some : 1 ≤ length r.views
  pub few : length r.views ≤ view_limit
  pub rising : AllPairs (λ u v. u.token < v.token) r.views
  pub held : (t : ℕ) → held_in r.holds t ≡ true → has_token r.views t ≡ true
  pub differ : AllPairs (λ g h. g ≢ h) r.holds

-- the view stays as one more is recorded: there is room, or it is held, or one that nobody holds has a lesser token
abbrev pub stays_by : Records → View → Bool
stays_by r v = stays_recorded (held_in r.holds) (tokens_of r.views) v.token

-- the view stays in a PRUNE n: it is held, or among those of the greatest max n 1 tokens
abbrev pub stays_in : Records → ℕ → View → Bool
stays_in r n v = stays_pruned (held_in r.holds) n (tokens_of r.views) v.token

-- with one view more
abbrev pub records_with_view : Records → View → Records
records_with_view r v = record r { views = filter (stays_by r) r.views ++ v ∷ [] }

-- without the views that a PRUNE n takes out
abbrev pub pruned_to : Records → ℕ → Records
pruned_to r n = record r { views = filter (stays_in r n) r.views }

-- with a hold of the session, where it has none of the token
abbrev pub acquired : Records → ℕ → ℕ → Records
acquired r s t = record r { holds = cond (has_hold r.holds s t) r.holds (r.holds ++ record { session = s; token = t } ∷ []) }

-- without the session's hold of the token
abbrev pub released : Records → ℕ → ℕ → Records
released r s t = record r { holds = filter (λ h. not ((h.session == s) && (h.token == t))) r.holds }
