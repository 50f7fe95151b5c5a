-- What a schema line opens in a directory.
use Rattle.std.specs.Prelude.{◌≡◌, ◌⊎◌, ℕ, Some, Result, Ok, Err, List, [], map}
use Rattle.cat_base.specs.declared.refusal.Refusal.{Refusal}
use Rattle.cat_base.specs.declared.refusal.Refusal.TheVariants.{Damaged, Device, Kind, Memory}
use Rattle.cat_model.specs.Item.{Record, Schema}
use Rattle.cat_model.specs.Served.{Begins, HasSchemaText, OpensEmpty, Opening}
use Rattle.cat_model.specs.Table.{Opened}
use Rattle.cat_model.specs.Text.{Text}
use Rattle.cat_items.specs.Reading.{json}
use Rattle.cat_directory.specs.Devices.{FileContent, NoMore}
use Rattle.cat_directory.specs.declared.name.FileName.{FileName}
use Rattle.cat_ledger_laws.specs.model.Ledger.{LedgerCommit, commit_file, portions_in}
use Rattle.cat_ledger_laws.specs.model.Opening.{Restored, IsRestored}
use Rattle.cat_ledger_laws.specs.model.Portions.{ArePortions, leaf_of, records_of}
use Rattle.cat_ledger_laws.specs.model.Stored.{FileBytes, IsCommitStored}
use Rattle.cat_ledger_laws.specs.shape.OpeningLaws.{MayHold}
use Rattle.cat_ledger_laws.specs.shape.Ties.{FilesAgree, ToldFiles}
use Rattle.cat_ledger_laws.specs.lines.RunLaws.{Stands}
use Rattle.cat_commands.specs.cat_ledger_state.startup.Newest.{HasNoCommit, IsNewestCommit}
use Rattle.cat_commands.specs.cat_ledger_state.startup.Refused.{IsNewestDamaged, IsNewestForeign}
use Rattle.cat_commands.specs.cat_protocol.declared.serving.machine.Unopened.{Unopened}
use Rattle.cat_service.specs.Worlds.{Service, device_of, shape_of_service}

-- The commit's files hold the records: they are the live ones of its segments, with the rows that were read and the sources that stand
-- in the files, where the device tells them. (Lucene: what a `DirectoryReader` over an `IndexCommit` shows.)
pub record HoldsTable (told : ToldFiles) (schema : Schema) (restored : Restored) (records : List Record) : Type 0 where
  pub files : FileBytes
  pub agrees : FilesAgree told files
  pub commit : LedgerCommit
  pub same : commit_file schema commit ≡ restored.commit
  pub stored : IsCommitStored files schema commit
  pub formed : ArePortions (portions_in commit)
  pub leaves : map (leaf_of schema) (portions_in commit) ≡ restored.leaves
  pub table : records ≡ records_of (portions_in commit)

-- It begins at the newest commit, as the directory's files may hold it: with the fields, the table, the number of writes, the generation
-- and the text of that commit.
pub record BeginsAtCommit (told : ToldFiles) (schema : Schema) (from : Opened) : Type 0 where
  pub generation : ℕ
  pub newest : IsNewestCommit told generation
  pub restored : Restored
  pub held : IsRestored (MayHold told) schema generation restored
  pub fields : from.start.schema ≡ schema
  pub table : HoldsTable told schema restored from.start.records
  pub token : from.start.token ≡ restored.commit.token
  pub commit : from.commit ≡ Some (record { generation = restored.commit.generation; text = restored.commit.text })

-- What opening a directory under a schema may answer, by what it tells of its files: the newest commit, or an empty catalogue where
-- there is none; or why it isn't opened.
abbrev pub OpensIn : ToldFiles → Opening
OpensIn told schema (Ok from) = BeginsAtCommit told schema from ⊎ (HasNoCommit told × OpensEmpty schema (Ok from))
OpensIn told schema (Err e) =
    (e ≡ Memory) ⊎ (e ≡ Device) ⊎ ((e ≡ Damaged) × IsNewestDamaged told schema) ⊎ ((e ≡ Kind) × IsNewestForeign told schema)

-- how a world begins that the line opens
abbrev pub BeginsIn : ToldFiles → Text → Result Opened Refusal → Type 0
BeginsIn told line r = Begins json (OpensIn told) line r

-- What opening a directory by the text of a line may give. A device that isn't opened comes back with each file as it was told, and a crash may
-- leave no more of it than it could have. The first two arguments say what a device tells of its files, and what a crash may leave.
abbrev pub OpensWorld : {D : Type 0} → (D → ToldFiles) → (D → FileName → FileContent → Type 0) → D → Text → Result (Service D) (Unopened D)
    → Type 0
OpensWorld bytes may_leave device line (Ok w) =
    (from : Opened) × BeginsIn (bytes device) line (Ok from) × ((shape_of_service w).schema ≡ from.start.schema)
    × Stands (bytes (device_of w)) (shape_of_service w) from []
OpensWorld bytes may_leave device line (Err u) =
    (((u.refusal ≡ Memory) × HasSchemaText line) ⊎ BeginsIn (bytes device) line (Err u.refusal))
    × ((q : FileName) → bytes u.seed q ≡ bytes device q) × ((q : FileName) → NoMore (may_leave device q) (may_leave u.seed q))
