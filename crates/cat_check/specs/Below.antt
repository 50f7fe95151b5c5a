-- Which commit comes before another, by the names of a directory's files.
use Rattle.std.specs.Prelude.{ℕ, ◌≤◌, ◌<◌, ◌↔◌, List, Contains}
use Rattle.std.specs.List.{AllPairs}
use Rattle.std.specs.List.Sorted.{IsStrictlySortedBy}
use Rattle.cat_directory.specs.declared.name.FileName.{FileName}
use Rattle.cat_directory.specs.declared.name.FileName.TheVariants as file
use Rattle.cat_directory.specs.Names.{name_cmp}

-- it is the greatest generation of a commit's name below the bound
pub record IsNextBelow (names : List FileName) (bound g : ℕ) : Type 0 where
  pub there : Contains names (file.Commit g)
  pub below : g < bound
  pub greatest : (h : ℕ) → Contains names (file.Commit h) → h < bound → h ≤ g

-- no commit's name has a generation below the bound
abbrev pub HasNoneBelow : List FileName → ℕ → Type 0
HasNoneBelow names bound = (h : ℕ) → Contains names (file.Commit h) → h < bound → ⊥

-- They are the generations below the bound of all commits of the names, falling; each once, if the names rise.
pub record AreBelow (names : List FileName) (bound : ℕ) (generations : List ℕ) : Type 0 where
  pub each : (h : ℕ) → Contains generations h ↔ (Contains names (file.Commit h) × (h < bound))
  pub falling : IsStrictlySortedBy name_cmp names → AllPairs (λ g h. h < g) generations

-- it is the generation of a commit of these names, but not of the newest
abbrev pub IsOlder : List FileName → ℕ → Type 0
IsOlder names h = Contains names (file.Commit h) × ((g : ℕ) × Contains names (file.Commit g) × (h < g))

-- they are the generations of all commits of these names but the newest, falling, each once
pub record AreOlder (names : List FileName) (generations : List ℕ) : Type 0 where
  pub each : (h : ℕ) → Contains generations h ↔ IsOlder names h
  pub falling : AllPairs (λ g h. h < g) generations
