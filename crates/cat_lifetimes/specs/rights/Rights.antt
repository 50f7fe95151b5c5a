-- Sessions' rights to views, by session and token.
use Rattle.std.specs.Prelude.{◌≡◌, ℕ, ◌==◌, ◌&&◌, Bool, false, List, Option, None, Some, cond, find, AllPairs}
use Rattle.std.specs.List.{AllByRecursion}
use Rattle.cat_model.specs.State as state
use Rattle.cat_views.specs.Holds.{HeldView}

-- the right is the session's, and to the view of the token
abbrev pub is_of : ℕ → ℕ → HeldView → Bool
is_of s t right = (right.session == s) && (right.view.token == t)

-- the session's right to the view of the token
abbrev pub right_of : List HeldView → ℕ → ℕ → Option HeldView
right_of rights s t = find (is_of s t) rights

-- no session has two rights to the view of a token
abbrev pub AreRightsApart : List HeldView → Type 0
AreRightsApart rights = AllPairs (λ g h. is_of g.session g.view.token h ≡ false) rights

-- the right is found by its session and the token of its view, and all other rights as before
abbrev pub PutsIn : HeldView → List HeldView → List HeldView → Type 0
PutsIn right old new = (u v : ℕ) → right_of new u v ≡ cond (is_of u v right) (Some right) (right_of old u v)

-- the session has no right to the view of the token any more, and all other rights are found as before
abbrev pub TakesOut : ℕ → ℕ → List HeldView → List HeldView → Type 0
TakesOut s t old new = (u v : ℕ) → right_of new u v ≡ cond ((s == u) && (t == v)) None (right_of old u v)

-- the session of a right, and the token of its view
abbrev pub hold_of_right : HeldView → state.Hold
hold_of_right right = record { session = right.session; token = right.view.token }

-- each right stands under its session and the token of its view
abbrev pub AreRightsKeyed : List (state.Hold × HeldView) → Type 0
AreRightsKeyed entries = AllByRecursion (λ e. e.0 ≡ hold_of_right e.1) entries
