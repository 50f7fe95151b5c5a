-- The laws of recorded views and of holds over shapes.
use Rattle.std.specs.Prelude.{◌≡◌, ℕ, ◌≤◌, ◌==◌, true, false, List, [], All}
use Rattle.std.specs.List.{list_any}
use Rattle.cat_model.specs.Files.{Name}
use Rattle.cat_model.specs.State.{Hold, held_in}
use Rattle.cat_model.specs.View.{View, IsView}
use Rattle.cat_ledger_laws.specs.model.Calls as model
use Rattle.cat_ledger_laws.specs.model.Users.{users_of, times}
use Rattle.cat_ledger_laws.specs.shape.Shapes.{Shape, IsShape, names_of_views, view_now}
use Rattle.cat_ledger_laws.specs.shape.Steps.{ShapeRecordsNow, IsPruned}
use Rattle.cat_ledger_laws.specs.shape.Ties.{ToldFiles, Makes, TouchesNothing}

-- a view of the token is recorded
abbrev pub is_view_recorded : List View → ℕ → Type 0
is_view_recorded views t = list_any (λ v. v.token == t) views ≡ true

-- a view of now is recorded where nothing waits and none has its token
abbrev pub RecordsMake : Type 0
RecordsMake = (s new : Shape) (told told' : ToldFiles) → s.buffered ≡ [] → list_any (λ v. v.token == s.count) s.views ≡ false
    → ShapeRecordsNow s new → TouchesNothing told told' → Makes model.RecordsView told s told' new

abbrev pub RecordsKeep : Type 0
RecordsKeep = (s new : Shape) → s.buffered ≡ [] → list_any (λ v. v.token == s.count) s.views ≡ false → ShapeRecordsNow s new → IsShape s → IsShape new

abbrev pub PrunesMake : Type 0
PrunesMake = (n : ℕ) (s new : Shape) (told told' : ToldFiles) → IsPruned n s new → TouchesNothing told told' → Makes (model.Pruned n) told s told' new

abbrev pub PrunesKeep : Type 0
PrunesKeep = (n : ℕ) (s new : Shape) → IsPruned n s new → IsShape s → IsShape new

-- whatever holds come or go, where each held token has a view
abbrev pub HoldsMake : Type 0
HoldsMake = (s : Shape) (hs : List Hold) (told told' : ToldFiles) → ((t : ℕ) → held_in hs t ≡ true → is_view_recorded s.views t)
    → TouchesNothing told told' → Makes (λ l l'. l' ≡ record l { holds = hs }) told s told' (record s { holds = hs })

abbrev pub HoldsKeep : Type 0
HoldsKeep = (s : Shape) (hs : List Hold) → ((t : ℕ) → held_in hs t ≡ true → is_view_recorded s.views t) → IsShape s → IsShape (record s { holds = hs })

-- ---- what a shape gives

-- the current segments are a view, and so is each that is recorded, whose token the number of writes has reached
abbrev pub ShapesAreViews : Type 0
ShapesAreViews = (s : Shape) → IsShape s → IsView (view_now s) × All IsView s.views × All (λ v. v.token ≤ s.count) s.views
    × All (λ v. v.schema ≡ s.schema) s.views

-- each name has as many users at least as the views have it
abbrev pub ViewsAreCounted : Type 0
ViewsAreCounted = (s : Shape) → IsShape s → (q : Name) → times q (names_of_views s.views) ≤ users_of s.users q
