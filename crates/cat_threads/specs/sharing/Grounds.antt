-- What a service begins with, the sources of items apart.
use Rattle.std.specs.Prelude.{◌≡◌, ℕ, List, ◌++◌, map}
use Rattle.std.specs.List.{flat_map}
use Rattle.cat_model.specs.Item.{Schema}
use Rattle.cat_model.specs.Table.{Opened, Start}
use Rattle.cat_model.specs.View.{Row, live_rows, row_of}
use Rattle.cat_ledger_laws.specs.shape.Shapes.{Shape}
use Rattle.cat_ledger_laws.specs.shape.Ties.{ToldFiles}
use Rattle.cat_threads.specs.history.Rules.{Sight}
use Rattle.cat_threads.specs.sharing.Agrees.{Agrees}

-- the fields, the rows of the table, and the number of writes
pub record Rows : Type 0 where
  pub schema : Schema
  pub rows : List Row
  pub token : ℕ

pub record Ground : Type 0 where
  pub start : Rows

-- a start that has these
pub record IsOn (ground : Ground) (start : Start) : Type 0 where
  pub fields : start.schema ≡ ground.start.schema
  pub rows : map row_of start.records ≡ ground.start.rows
  pub token : start.token ≡ ground.start.token

-- those that memory has of a ledger
abbrev pub ground_of : Shape → Ground
ground_of s = record { start = record { schema = s.schema; rows = flat_map live_rows s.leaves ++ map row_of s.buffered; token = s.count } }

-- the list agrees with the ledger, from some start that has these rows
pub record Shares (told : ToldFiles) (s : Shape) (ground : Ground) (sessions : List ℕ) (v : Sight) : Type 0 where
  pub from : Opened
  pub begins : IsOn ground from.start
  pub agrees : Agrees told s from sessions v
