-- What a service begins and ends with.
use Rattle.std.specs.Prelude.{◌≡◌, ℕ, List, []}
use Rattle.cat_model.specs.Table.{Opened}
use Rattle.atomic_table.specs.Seated.{TableId}
use Rattle.cat_commands.specs.cat_ledger.Ledgers.{LedgerOnDevice}
use Rattle.cat_ledger_laws.specs.shape.Shapes.{Shape}
use Rattle.cat_ledger_laws.specs.shape.Ties.{ToldFiles}
use Rattle.cat_ledger_laws.specs.lines.RunLaws.{Stands}
use Rattle.cat_threads.specs.history.Entries.{LogEntry}
use Rattle.cat_threads.specs.sharing.Grounds.{Ground}
use Rattle.cat_threads.specs.sharing.ShareLaws.{IsHistoryOf}
use Rattle.cat_threads.specs.history.Rules.{Each, NoStrangers}
use Rattle.cat_threads.specs.service.Passes.{Ends, Seen}

-- a ledger as it is opened, with the name of the words beside it
pub record Begun (D : Type 0) : Type 0 where
  pub table : TableId
  pub ledger : LedgerOnDevice D

-- a ledger as it is opened: it stands for a run of no lines
pub record IsJustOpened (told : ToldFiles) (s : Shape) : Type 0 where
  pub from : Opened
  pub fields : from.start.schema ≡ s.schema
  pub stands : Stands told s from []

-- There is one list at the end: the ledger has its writes, each pass has seen a beginning of it, with all writes of its session, and no
-- other session has a write in it.
pub record OneHistory (told : ToldFiles) (s : Shape) (from : Ground) (sessions : List ℕ) (passes : List Seen) : Type 0 where
  pub list : List LogEntry
  pub history : IsHistoryOf told s from list
  pub each : Each (Ends list) passes
  pub others : NoStrangers sessions list
