-- Names that are pending, and the entries of the code as users of names.
use Rattle.std.specs.Prelude.{◌≡◌, ℕ, Bool, true, false, ◌&&◌, ◌==◌, List, Some, cond, map, unwrap_or}
use Rattle.std.specs.Map.{lookup}
use Rattle.cat_model.specs.Files.{Name}
use Rattle.cat_ledger_laws.specs.model.Users.{Used, users_of, is_known}
use Rattle.cat_directory.specs.declared.name.FileName.{FileName}
use Rattle.cat_directory.specs.Names.{name_of, same_name}

-- the names that stand in the code
abbrev pub names_in : List FileName → List Name
names_in names = map name_of names

-- the name is known, and nobody has it
abbrev pub is_pending : List Used → Name → Bool
is_pending us q = is_known us q && (users_of us q == 0)

-- so in the code
abbrev pub IsPending : List Used → FileName → Type 0
IsPending us q = is_pending us (name_of q) ≡ true

-- the name was pending, and isn't known any more
abbrev pub IsForgotten : List Used → List Used → FileName → Type 0
IsForgotten old new q = IsPending old q × (is_known new (name_of q) ≡ false)

-- an entry of the map
abbrev pub used_in : FileName × ℕ → Used
used_in e = record { name = name_of e.0; users = e.1 }

-- how many users a name has by its entry
abbrev pub users_under : List (FileName × ℕ) → FileName → ℕ
users_under es q = unwrap_or (lookup (same_name q) es) 0

-- the entries fs have v at k, and elsewhere what es have
abbrev pub PutsUsers : List (FileName × ℕ) → List (FileName × ℕ) → FileName → ℕ → Type 0
PutsUsers es fs k v = (q : FileName) → lookup (same_name q) fs ≡ cond (same_name k q) (Some v) (lookup (same_name q) es)
