-- No step of a merge touches a commit's own file.
use Rattle.std.proofs.Common.{ℕ, Option, Some, None, inl, inr}
use Rattle.std.specs.Prelude.{◌≢◌}
use Rattle.cat_directory.specs.Devices.{FileContent, NoMore}
use Rattle.cat_directory.specs.declared.name.FileName.{FileName}
use Rattle.cat_directory.specs.declared.name.FileName.TheVariants as file
use Rattle.cat_ledger_laws.specs.shape.Shapes.{MergingShape}
use Rattle.cat_ledger_state.specs.Cores.{IsSourceOf}
use Rattle.cat_ledger_state.specs.Installs.{IsOfMerge}
use Rattle.cat_ledger.specs.upkeep.Spared.{SparesCommits}

-- a commit's file is none of these
no_segment : (g n : ℕ) → file.Commit g ≢ file.Segment n
no_segment g n e = cc

no_source : (g n : ℕ) → file.Commit g ≢ file.Source n
no_source g n e = cc

no_source_of : (o : Option MergingShape) (g : ℕ) → IsSourceOf o (file.Commit g) → ⊥
no_source_of None g of = of
no_source_of (Some m) g of = no_source g m.number of

pub none_of_merge : (o : Option MergingShape) (g : ℕ) → IsOfMerge o (file.Commit g) → ⊥
none_of_merge None g of = of
none_of_merge (Some m) g of = elim of [ inl e ↦ no_segment g m.number e | inr e ↦ no_source g m.number e ]

-- nothing is touched
pub spared : (left : FileName → FileContent → Type 0) → SparesCommits left left
spared left g e after = after

module _ (could can : FileName → FileContent → Type 0) where
  -- one file of sources alone may be,
  pub begun_spares : (n : ℕ) → ((q : FileName) → q ≢ file.Source n → NoMore (could q) (can q)) → SparesCommits could can
  begun_spares n crash g = crash (file.Commit g) (no_source g n)

  -- or that of the merge in the making,
  pub copied_spares : (o : Option MergingShape) → ((q : FileName) → (IsSourceOf o q → ⊥) → NoMore (could q) (can q)) → SparesCommits could can
  copied_spares o crash g = crash (file.Commit g) (no_source_of o g)

  -- or both of its files
  pub installed_spares : (o : Option MergingShape) → ((q : FileName) → (IsOfMerge o q → ⊥) → NoMore (could q) (can q)) → SparesCommits could can
  installed_spares o crash g = crash (file.Commit g) (none_of_merge o g)
