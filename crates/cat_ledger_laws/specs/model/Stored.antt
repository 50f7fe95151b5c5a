-- The files that the ledger needs, and what stands in them. Not to be believed, but to prove by: what the bytes of segments,
-- live sets and commits say is defined in `cat_model`.
use Rattle.std.specs.Prelude.{◌≡◌, ℕ, ◌==◌, true, false, List, cond, Option, Some, None}
use Rattle.std.specs.List.{flat_map, AllByRecursion}
use Rattle.cat_model.specs.Text.{Text}
use Rattle.cat_model.specs.Item.{Schema, Record}
use Rattle.cat_model.specs.Files.{Name}
use Rattle.cat_model.specs.Layout.{SpellsSegment}
use Rattle.cat_model.specs.LiveFile.{SpellsLive}
use Rattle.cat_model.specs.CommitFile.{SpellsCommit}
use Rattle.cat_model.specs.View.{Leaf, sourced}
use Rattle.cat_ledger_laws.specs.model.Portions.{Portion, segment_of, Merging}
use Rattle.cat_ledger_laws.specs.model.Users.{has_name}
use Rattle.cat_ledger_laws.specs.model.Ledger.{Listed, LedgerCommit, commit_file, Ledger}

-- what a directory tells that tells all its files: the bytes of each name, or that it is absent
abbrev pub FileBytes : Type 0
FileBytes = Name → Option Text

-- the sources of records, one after the other
abbrev pub joined_sources : List Record → Text
joined_sources rs = flat_map (λ r. r.item.source) rs

-- a portion's segment stands in its file
pub record IsSegmentStored (files : FileBytes) (schema : Schema) (p : Portion) : Type 0 where
  pub bytes : Text
  pub there : files (Name.segment p.number) ≡ Some bytes
  pub spelled : SpellsSegment bytes (segment_of schema p)

-- a portion's segment and sources stand in their files
pub record IsStored (files : FileBytes) (schema : Schema) (p : Portion) : Type 0 where
  pub segment : IsSegmentStored files schema p
  pub source : files (Name.source p.number) ≡ Some (joined_sources p.records)

-- the live set stands in the file of this generation, or all is live where there is none
pub record IsLiveStored (files : FileBytes) (x : Listed) : Type 0 where
  pub bytes : Text
  pub there : files (Name.live x.portion.number x.file) ≡ Some bytes
  pub spelled : SpellsLive bytes (record { number = x.portion.number; generation = x.file; live = x.portion.live })

-- the live set of a portion of a commit stands in its file, if it has one
abbrev pub HasLive : FileBytes → Listed → Type 0
HasLive files x = cond (x.file == 0) (AllByRecursion (λ b. b ≡ true) x.portion.live) (IsLiveStored files x)

-- a commit stands in its file
pub record IsCommitWritten (files : FileBytes) (schema : Schema) (c : LedgerCommit) : Type 0 where
  pub bytes : Text
  pub there : files (Name.commit c.generation) ≡ Some bytes
  pub spelled : SpellsCommit bytes (commit_file schema c)

-- a commit's file, and those of its portions and live sets, stand
pub record IsCommitStored (files : FileBytes) (schema : Schema) (c : LedgerCommit) : Type 0 where
  pub commit : IsCommitWritten files schema c
  pub portions : AllByRecursion (λ x. IsStored files schema x.portion) c.listed
  pub live : AllByRecursion (HasLive files) c.listed

-- the sources of the kept records stand in the file that the merge began
abbrev pub IsMergeStored : FileBytes → Option Merging → Type 0
IsMergeStored files None = Unit {0}
IsMergeStored files (Some m) = files (Name.source m.number) ≡ Some (joined_sources m.kept)

-- every file that is needed is there with its bytes
pub record AreStored (files : FileBytes) (l : Ledger) : Type 0 where
  pub portions : AllByRecursion (IsStored files l.schema) l.portions
  pub views : AllByRecursion (λ v. AllByRecursion (IsStored files l.schema) v.portions) l.views
  pub commits : AllByRecursion (IsCommitStored files l.schema) l.commits
  pub merging : IsMergeStored files l.merging

-- these names' files stay as they are
abbrev pub SparesFiles : List Name → FileBytes → FileBytes → Type 0
SparesFiles names old new = AllByRecursion (λ q. new q ≡ old q) names

-- all files stay as they are but those of these names
abbrev pub ChangesOnly : List Name → FileBytes → FileBytes → Type 0
ChangesOnly names old new = (q : Name) → has_name q names ≡ false → new q ≡ old q

-- a portion as the memory and the sources' files hold it together: the rows of a leaf, each with its source
abbrev pub portion_in : (ℕ → Text) → Leaf → Portion
portion_in sources leaf =
    record { number = leaf.segment.number; records = sourced leaf.segment.rows (sources leaf.segment.number); live = leaf.live }
