-- The numbers that names leave free.
use Rattle.std.specs.Prelude.{ℕ, ◌≤◌, List, All, Contains}
use Rattle.cat_directory.specs.declared.name.FileName.{FileName}
use Rattle.cat_directory.specs.declared.name.FileName.TheVariants as file
use Rattle.cat_directory.specs.Names.{name_of}
use Rattle.cat_ledger_laws.specs.model.Ledger.{IsPast}

-- every name has lower numbers
abbrev pub ArePast : ℕ → ℕ → List FileName → Type 0
ArePast n g names = All (λ q. IsPast n g (name_of q)) names

-- they are the least such numbers, from 1 on
pub record AreNext (names : List FileName) (n g : ℕ) : Type 0 where
  pub some : (1 ≤ n) × (1 ≤ g)
  pub past : ArePast n g names
  pub least : (m h : ℕ) → 1 ≤ m → 1 ≤ h → ArePast m h names → (n ≤ m) × (g ≤ h)

-- it is the greatest generation of a commit's name
pub record IsNewest (names : List FileName) (g : ℕ) : Type 0 where
  pub there : Contains names (file.Commit g)
  pub greatest : (h : ℕ) → Contains names (file.Commit h) → h ≤ g
