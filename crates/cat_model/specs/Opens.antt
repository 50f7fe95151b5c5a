-- What opening a directory by a schema line gives, by what the directory tells of its files.
use Rattle.std.specs.Prelude.{◌≡◌, ◌⊎◌, ℕ, List, length, map, sum, Some, Result, Ok, Err}
use Rattle.std.specs.List.{AllByRecursion}
use Rattle.cat_base.specs.declared.refusal.Refusal.{Refusal}
use Rattle.cat_base.specs.declared.refusal.Refusal.TheVariants.{Damaged, Device, Kind, Memory}
use Rattle.cat_model.specs.Text.{Text}
use Rattle.cat_model.specs.Item.{Record, Schema}
use Rattle.cat_model.specs.Table.{Opened}
use Rattle.cat_model.specs.Heard.{Json}
use Rattle.cat_model.specs.Files.{Name}
use Rattle.cat_model.specs.Served.{Begins, OpensEmpty, Opening}
use Rattle.cat_model.specs.CommitFile.{CommitFile}
use Rattle.cat_model.specs.View.{Leaf, View, records_in}
use Rattle.cat_model.specs.Told.{IsNewestTold, IsToldToHave, MayHave, TellsNoCommit, ToldByName}
use Rattle.cat_model.specs.Restored.{IsForeign, IsRestored, Restored}

-- ---- what a directory holds, as far as it tells

-- these bytes may stand in the file of the sources of the leaf's segment, and are as many as its rows need
pub record MayHaveSources (told : ToldByName) (sources : ℕ → Text) (leaf : Leaf) : Type 0 where
  pub there : MayHave told (Name.source leaf.segment.number) (sources leaf.segment.number)
  pub size : length (sources leaf.segment.number) ≡ sum (map (λ r. r.length) leaf.segment.rows)

-- The records are the live ones of the view's rows, with sources that may stand in the files of its segments.
pub record HoldsRecords (told : ToldByName) (view : View) (records : List Record) : Type 0 where
  pub sources : ℕ → Text
  pub stand : AllByRecursion (MayHaveSources told sources) view.leaves
  pub shown : records ≡ records_in sources view

-- The files may hold the commit of this generation under the schema, and its table, which has these records. (Lucene: what a
-- `DirectoryReader` over an `IndexCommit` shows.)
pub record HoldsCommit (told : ToldByName) (schema : Schema) (generation : ℕ) (commit : CommitFile) (records : List Record) : Type 0 where
  pub leaves : List Leaf
  pub held : IsRestored (MayHave told) schema generation (record { commit = commit; leaves = leaves })
  pub table : HoldsRecords told (record { schema = schema; leaves = leaves; token = commit.token }) records

-- ---- what it opens with

-- It begins at the newest commit, as the directory's files may hold it: with the fields, the table, the number of writes, the generation
-- and the text of that commit.
pub record BeginsAtNewest (told : ToldByName) (schema : Schema) (from : Opened) : Type 0 where
  pub generation : ℕ
  pub newest : IsNewestTold told generation
  pub commit : CommitFile
  pub held : HoldsCommit told schema generation commit from.start.records
  pub fields : from.start.schema ≡ schema
  pub token : from.start.token ≡ commit.token
  pub text : from.commit ≡ Some (record { generation = commit.generation; text = commit.text })

-- there is a newest commit, and its files hold none under this schema, nor does its own file hold one under another
pub record NewestIsDamaged (told : ToldByName) (schema : Schema) : Type 0 where
  pub generation : ℕ
  pub newest : IsNewestTold told generation
  pub lost : (r : Restored) → IsRestored (IsToldToHave told) schema generation r → ⊥
  pub own : IsForeign (IsToldToHave told) schema generation → ⊥

-- there is a newest commit, and its file, as it may be, holds one under another schema
pub record NewestIsForeign (told : ToldByName) (schema : Schema) : Type 0 where
  pub generation : ℕ
  pub newest : IsNewestTold told generation
  pub foreign : IsForeign (MayHave told) schema generation

-- What opening a directory under a schema may answer, by what it tells of its files: the newest commit, or an empty catalogue where
-- there is none; or why it isn't opened.
abbrev pub OpensFrom : ToldByName → Opening
OpensFrom told schema (Ok from) = BeginsAtNewest told schema from ⊎ (TellsNoCommit told × OpensEmpty schema (Ok from))
OpensFrom told schema (Err e) =
    (e ≡ Memory) ⊎ (e ≡ Device) ⊎ ((e ≡ Damaged) × NewestIsDamaged told schema) ⊎ ((e ≡ Kind) × NewestIsForeign told schema)

-- how a service begins that the line opens
abbrev pub BeginsFrom : Json → ToldByName → Text → Result Opened Refusal → Type 0
BeginsFrom json told line r = Begins json (OpensFrom told) line r
