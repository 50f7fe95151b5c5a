-- Counts of snapshots in the code, as those that are taken.
use Rattle.std.specs.Prelude.{ℕ, ◌≤◌, ◌<◌, IfSome, nat_eq}
use Rattle.std.specs.HashMap.{HashMap, get}
use Rattle.cat_model.specs.Limits.{snapshot_limit}
use Rattle.cat_model.specs.State.{Taken}

-- an entry of the map
abbrev pub taken_in : ℕ × ℕ → Taken
taken_in e = record { generation = e.0; snapshots = e.1 }

-- no entry is empty, and none is above the limit
abbrev pub FitLimit : {S : Type 0} → HashMap ℕ ℕ S → Type 0
FitLimit counts = (g : ℕ) → IfSome (get nat_eq counts g) (λ n. (0 < n) × (n ≤ snapshot_limit))
