-- What a session keeps for itself, and what that stands for.
use Rattle.std.specs.Prelude.{◌≡◌, ℕ, ◌+◌, ◌≤◌, List, length, Option, None, Some, IfSome, All}
use Rattle.cat_model.specs.Table.{Start, table}
use Rattle.cat_model.specs.View.{Segment, Shows, View, segments_of}
use Rattle.cat_threads.specs.cat_commands.cat_cached_sets.filters.Filters.{Filters}
use Rattle.cat_threads.specs.cat_commands.cat_cached_sets.filters.Known.{Knows}
use Rattle.cat_threads.specs.cat_commands.cat_cached_sets.cat_views.Holds.{HeldView}
use Rattle.cat_threads.specs.cat_commands.cat_ledger.cat_lifetimes.rights.Rights.{right_of}
use Rattle.cat_threads.specs.cat_commands.cat_protocol.cat_facets.Kept.{KnowsIn}
use Rattle.cat_threads.specs.cat_commands.cat_protocol.cat_facets.States.{ReaderState}
use Rattle.cat_threads.specs.history.Entries.{writes_in}
use Rattle.cat_threads.specs.service.Passes.{Seen}
use Rattle.cat_threads.specs.sharing.Grounds.{Ground, IsOn}

-- what a session is seen as, beside its pass
pub record Kept : Type 0 where
  pub session : ℕ
  pub rights : List HeldView

abbrev pub kept : ℕ → List HeldView → Kept
kept session rights = record { session = session; rights = rights }

-- the states are of no other segments than those of the view that the session has under the token
abbrev pub AreOf : ℕ → List HeldView → Option (ℕ × List ReaderState) → Type 0
AreOf session rights None = Unit {0}
AreOf session rights (Some states) = (h : HeldView) → right_of rights session states.0 ≡ Some h → All (KnowsIn states.1) (segments_of h.view.leaves)

-- no set is kept that another segment could have the number of, and the states are those of the view that was counted last
pub record IsKept (session : ℕ) (rights : List HeldView) (filters : Option Filters) (states : Option (ℕ × List ReaderState)) : Type 0 where
  pub sets : IfSome filters (λ f. (s : Segment) → Knows f s)
  pub counts : AreOf session rights states

-- The view has the service's fields, and shows the table of the list at t, whatever start has the rows that the service began with.
pub record ShowsSeen (from : Ground) (v : Seen) (t : ℕ) (view : View) : Type 0 where
  pub fields : view.schema ≡ from.start.schema
  pub table_is : (start : Start) → IsOn from start → Shows view (table start (writes_in v.list) t)

-- A right of the session to the view of the token t: the view is of the service, as above.
pub record IsRightTo (from : Ground) (v : Seen) (t : ℕ) (h : HeldView) : Type 0 where
  pub token : h.view.token ≡ t
  pub fields : h.view.schema ≡ from.start.schema
  pub low : from.start.token ≤ t
  pub upto : t ≤ from.start.token + length v.list
  pub table_is : (start : Start) → IsOn from start → Shows h.view (table start (writes_in v.list) t)

-- each right of the session is so
abbrev pub AreRightsTo : Ground → Seen → List HeldView → Type 0
AreRightsTo from v rights = (t : ℕ) (h : HeldView) → right_of rights v.session t ≡ Some h → IsRightTo from v t h
