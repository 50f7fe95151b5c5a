-- When a merge is to be begun.
use Rattle.std.specs.Prelude.{◌≡◌, ℕ, Some, None}
use Rattle.cat_model.specs.Window.{IsWindow}
use Rattle.cat_ledger_laws.specs.model.Plans.{MergePolicy, MayBeForced}
use Rattle.cat_ledger_laws.specs.shape.Shapes.{Shape}
use Rattle.cat_ledger_laws.specs.lines.PlanLaws.{sizes_in, live_sets_in}

-- MERGE is to begin one: none is in the making, and the policy picks segments
abbrev pub IsMergeDue : MergePolicy → Shape → Type 0
IsMergeDue policy s = (s.merging ≡ None) × (index : ℕ) × IsWindow policy.factor policy.least (sizes_in s.leaves) (Some index)

-- FORCE is to begin one: none is in the making, and it is of some use to merge all
abbrev pub IsForceDue : Shape → Type 0
IsForceDue s = (s.merging ≡ None) × MayBeForced (sizes_in s.leaves) (live_sets_in s.leaves)
