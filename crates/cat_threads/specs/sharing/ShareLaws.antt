-- The laws of how one list agrees with a ledger, over the rows that it began with.
use Rattle.std.specs.Prelude.{◌≡◌, ℕ, ◌+◌, ◌-◌, ◌≤◌, List, [], ◌∷◌, ◌++◌, length}
use Rattle.cat_model.specs.Table.{Opened, Start, table}
use Rattle.cat_model.specs.Run.{Command, Reply, Run, IsRun, greatest, writes}
use Rattle.cat_model.specs.View.{View, Shows}
use Rattle.cat_model.specs.Write.{Write}
use Rattle.cat_ledger_laws.specs.model.Plans.{MergePolicy}
use Rattle.cat_ledger_laws.specs.shape.Shapes.{Shape}
use Rattle.cat_ledger_laws.specs.shape.Steps.{tokens_of}
use Rattle.cat_ledger_laws.specs.shape.Ties.{ToldFiles}
use Rattle.cat_ledger_laws.specs.lines.LineLaws.{line_of, tells}
use Rattle.cat_ledger_laws.specs.lines.ReadLaws.{IsRecordedAs}
use Rattle.cat_ledger_laws.specs.lines.RefusalLaws.{command_of}
use Rattle.cat_ledger_laws.specs.lines.RunLaws.{AnswersCarried, Stands}
use Rattle.cat_threads.specs.history.Entries.{LogEntry, entry, writes_in}
use Rattle.cat_threads.specs.history.Rules.{Sight, scribe}
use Rattle.cat_threads.specs.sharing.Grounds.{Ground, IsOn, Shares, ground_of}
use Rattle.cat_threads.specs.sharing.Laws.{IsStill}

abbrev pub FreshShare : Type 0
FreshShare = (told : ToldFiles) (s : Shape) (from : Opened) (sessions : List ℕ) (v : Sight)
    → from.start.schema ≡ s.schema → Stands told s from [] → v ≡ scribe [] 0 sessions [] → Shares told s (ground_of s) sessions v

-- The view has the service's fields, and shows the list's table at its token, whatever start has the rows; and the token lies between the
-- start's and that of now.
pub record IsOfGroundList (ground : Ground) (list : List LogEntry) (view : View) : Type 0 where
  pub fields : view.schema ≡ ground.start.schema
  pub low : ground.start.token ≤ view.token
  pub upto : view.token ≤ ground.start.token + length list
  pub table_is : (start : Start) → IsOn ground start → Shows view (table start (writes_in list) view.token)

abbrev pub ViewsShare : Type 0
ViewsShare = (told : ToldFiles) (s : Shape) (ground : Ground) (sessions : List ℕ) (v : Sight) (view : View)
    → Shares told s ground sessions v → IsRecordedAs s.views view.token view → IsOfGroundList ground v.list view

-- the ledger stands for a run from a start that has these rows, whose accepted writes are the list's
pub record IsHistoryOf (told : ToldFiles) (s : Shape) (ground : Ground) (list : List LogEntry) : Type 0 where
  pub from : Opened
  pub begins : IsOn ground from.start
  pub run : Run
  pub fits : IsRun from run
  pub stands : Stands told s from run
  pub written : writes run ≡ writes_in list
