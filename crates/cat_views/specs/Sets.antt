-- Sets of rows that are at hand for the segments of a view.
use Rattle.std.specs.Prelude.{◌≡◌, ℕ, ◌<◌, Bool, List, length, map, slice_get, slice_index_or, Option, Some, None, IfSome}
use Rattle.std.specs.Arc.{arc_value}
use Rattle.std.specs.declared.sync.Arc.{Arc}
use Rattle.cat_model.specs.Query.{Query}
use Rattle.cat_model.specs.View.{Leaf, row_matches}

-- what is shared, if something is
abbrev pub shared : {X Z : Type 0} → Option (Option (Arc X Z)) → Option X
shared None = None
shared (Some None) = None
shared (Some (Some a)) = Some (arc_value a)

-- the set that is at hand for the segment of this index, if one is
abbrev pub set_at : {X Z : Type 0} → List (Option (Arc X Z)) → ℕ → Option X
set_at sets i = shared (slice_get sets i)

-- each set that is at hand has the rows of its segment that the query matches, live or dead
abbrev pub AreSets : {Z : Type 0} → Query → List Leaf → List (Option (Arc (List Bool) Z)) → Type 0
AreSets q leaves sets = (i : ℕ) (leaf : Leaf) → i < length leaves
    → IfSome (set_at sets i) (λ rows. rows ≡ map (row_matches q) (slice_index_or leaves i leaf).segment.rows)
