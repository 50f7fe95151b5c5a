-- What is seen of a ledger, and what a call makes of it: the words of its contracts.
use Rattle.cat_directory.specs.Devices.{FileContent, NoMore}
use Rattle.cat_directory.specs.declared.name.FileName.{FileName}
use Rattle.cat_ledger_laws.specs.model.Ledger.{IsNew}
use Rattle.cat_ledger_laws.specs.model.Ledger as model
use Rattle.cat_ledger_laws.specs.model.Plans as plans
use Rattle.cat_ledger_laws.specs.shape.Ties.{Makes, ToldFiles}
use Rattle.cat_ledger_laws.specs.shape.Shapes.{Shape}
use Rattle.cat_ledger_state.specs.Installs.{IsOfMerge}
use Rattle.cat_directory.specs.Names.{name_of}

-- the directory, what memory has of the ledger, and when it merges
pub record LedgerOnDevice (D : Type 0) : Type 0 where
  pub device : D
  pub core : Shape
  pub policy : plans.MergePolicy

-- its device
abbrev pub device_in : {D : Type 0} → LedgerOnDevice D → D
device_in l = l.device

-- what memory has of it
abbrev pub shape_in : {D : Type 0} → LedgerOnDevice D → Shape
shape_in l = l.core

-- when it merges
abbrev pub policy_in : {D : Type 0} → LedgerOnDevice D → plans.MergePolicy
policy_in l = l.policy

-- Whatever ledger of the model it carries, the call makes of it what it carries afterwards. The first argument says what a device
-- tells of its files.
abbrev pub DoesCall : {D : Type 0} → (D → ToldFiles) → (model.Ledger → model.Ledger → Type 0) → LedgerOnDevice D → LedgerOnDevice D → Type 0
DoesCall bytes call old new = Makes call (bytes (device_in old)) (shape_in old) (bytes (device_in new)) (shape_in new)

-- A crash may leave of each file what it could have left before the call, but of one with a number that was not taken, and of those of
-- the merge in the making. The first argument says what a crash may leave of a device's files.
abbrev pub Spares : {D : Type 0} → (D → FileName → FileContent → Type 0) → LedgerOnDevice D → LedgerOnDevice D → Type 0
Spares left old new = (q : FileName) → (IsNew (shape_in old).next_segment (shape_in old).next_generation (name_of q) → ⊥)
    → (IsOfMerge (shape_in old).merging q → ⊥) → NoMore (left (device_in old) q) (left (device_in new) q)
