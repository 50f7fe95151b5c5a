-- What callers are told of the one list.
use Rattle.std.specs.Prelude.{◌≡◌, ℕ, ◌+◌, ◌-◌, ◌<◌, ◌≤◌, ◌⊎◌, List, [], ◌∷◌, ◌++◌, length, Some, None, Option, slice_get, Bool, true, not, ◌&&◌}
use mathlib.Core.List.{IsPrefix}
use Rattle.cat_model.specs.Table.{Start, table}
use Rattle.cat_model.specs.View.{Shows}
use Rattle.cat_model.specs.Write.{Write}
use Rattle.cat_commands.specs.cat_ledger.cat_ledger_state.cat_views.Holds.{HeldView}
use Rattle.cat_commands.specs.cat_ledger.declared.views.Grant.{Grant}
use Rattle.cat_threads.specs.sharing.Grounds.{Ground, IsOn}
use Rattle.cat_threads.specs.history.Entries.{LogEntry, entry, has_session, writes_in, writes_of}

-- what a caller's pass is seen as
pub record Seen : Type 0 where
  pub session : ℕ
  pub list : List LogEntry
  pub token : ℕ

-- what lies under the lock is seen as
pub record Shared : Type 0 where
  pub list : List LogEntry
  pub token : ℕ

-- a caller has seen no less
pub record Follows (v w : Seen) : Type 0 where
  pub same : w.session ≡ v.session
  pub longer : IsPrefix v.list w.list
  pub later : v.token ≤ w.token

-- its session has made no write
abbrev pub Idle : Seen → Seen → Type 0
Idle v w = writes_of v.session w.list ≡ writes_of v.session v.list

-- its session has made this write alone, which stands at number n, past all that it had seen
pub record Wrote (start n : ℕ) (write : Write) (v w : Seen) : Type 0 where
  pub number : start < n
  pub past : length v.list < n - start
  pub there : slice_get w.list (n - start - 1) ≡ Some (entry v.session write)
  pub mine : writes_of v.session w.list ≡ writes_of v.session v.list ++ write ∷ []

-- the token of a refresh
pub record Refreshed (start t : ℕ) (v w : Seen) : Type 0 where
  pub from : start + length v.list ≤ t
  pub upto : t ≤ start + length w.list
  pub seen : t ≤ w.token

-- the token that was asked for, or one that is no less than the one that was seen
abbrev pub IsLater : Option ℕ → ℕ → ℕ → Type 0
IsLater None least t = least ≤ t
IsLater (Some asked) least t = t ≡ asked

abbrev pub IfNew : Grant → (HeldView → Type 0) → Type 0
IfNew (Grant.New h) P = P h
IfNew (Grant.Already t) P = Unit {0}

-- what a caller is told of a view that it has the right to: it has the service's fields, and shows the table of the list at its token,
-- whatever start has the rows that the service began with
pub record Granted (from : Ground) (asked : Option ℕ) (v w : Seen) (h : HeldView) : Type 0 where
  pub own : h.session ≡ v.session
  pub fields : h.view.schema ≡ from.start.schema
  pub low : from.start.token ≤ h.view.token
  pub upto : h.view.token ≤ from.start.token + length w.list
  pub table_is : (start : Start) → IsOn from start → Shows h.view (table start (writes_in w.list) h.view.token)
  pub later : IsLater asked v.token h.view.token

-- of two lists one begins the other
abbrev pub AreOne : List LogEntry → List LogEntry → Type 0
AreOne xs ys = IsPrefix xs ys ⊎ IsPrefix ys xs

-- the sessions that have a pass, the last first
abbrev pub seated_by : List ℕ → List ℕ → List ℕ
seated_by seated [] = seated
seated_by seated (x ∷ xs) = seated_by (x ∷ seated) xs

abbrev pub all_different : List ℕ → Bool
all_different [] = true
all_different (x ∷ xs) = not (has_session x xs) && all_different xs

-- a session that has seen nothing yet
abbrev pub newcomer : ℕ → ℕ → Seen
newcomer start session = record { session = session; list = []; token = start }

-- the list begins with what a pass has seen, and has just its session's writes
pub record Ends (list : List LogEntry) (v : Seen) : Type 0 where
  pub begins : IsPrefix v.list list
  pub mine : writes_of v.session list ≡ writes_of v.session v.list
