-- What a world of sessions means: a ledger, and what is kept beside it.
use Rattle.std.specs.Prelude.{List, map}
use Rattle.cat_model.specs.View.{Segment}
use Rattle.cat_commands.specs.cat_protocol.cat_facets.States.{ReaderState}
use Rattle.cat_commands.specs.cat_cached_sets.filters.Filters.{Filters}
use Rattle.cat_ledger_laws.specs.model.Plans.{MergePolicy}
use Rattle.cat_ledger_laws.specs.shape.Shapes.{Shape}
use Rattle.cat_ledger_laws.specs.shape.Ties.{ToldFiles}
use Rattle.cat_commands.specs.cat_ledger.Ledgers.{device_in, policy_in, shape_in}
use Rattle.cat_commands.specs.cat_ledger.Ledgers.{LedgerOnDevice}
use Rattle.cat_commands.specs.sets.Kept.{HasKept}
use Rattle.cat_commands.specs.sets.Sets.{HasSets}
use Rattle.cat_commands.specs.cat_ledger.Lasting.{IsCarried}

-- a ledger, and the sets that are cached, with the noted queries and the set in the making
pub record Service (D : Type 0) : Type 0 where
  pub ledger : LedgerOnDevice D
  pub sets : Filters

-- its device
abbrev pub device_of : {D : Type 0} → Service D → D
device_of w = device_in w.ledger

-- what memory has of the ledger
abbrev pub shape_of_service : {D : Type 0} → Service D → Shape
shape_of_service w = shape_in w.ledger

-- when it merges
abbrev pub policy_of : {D : Type 0} → Service D → MergePolicy
policy_of w = policy_in w.ledger

-- the segments of the states that are kept
abbrev pub segments_kept : List ReaderState → List (List Segment)
segments_kept states = map (λ k. k.segments) states

-- A world: a ledger of the model is carried, and the sets and the states that are kept beside it are right. The first argument says
-- what a device tells of its files.
pub record IsWorld {D : Type 0} (bytes : D → ToldFiles) (ledger : LedgerOnDevice D) (filters : Filters) (states : List ReaderState) : Type 0 where
  pub carried : IsCarried (bytes (device_in ledger)) (shape_in ledger)
  pub sets : HasSets filters (shape_in ledger)
  pub kept : HasKept (segments_kept states) (shape_in ledger)
