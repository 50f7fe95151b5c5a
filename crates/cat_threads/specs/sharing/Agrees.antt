-- How one list of accepted writes agrees with a ledger.
use Rattle.std.specs.Prelude.{◌≡◌, ℕ, ◌+◌, ◌≤◌, List, []}
use Rattle.std.specs.List.{AllByRecursion}
use Rattle.cat_model.specs.Table.{Opened}
use Rattle.cat_model.specs.Run.{Run, IsRun, greatest, view_tokens, writes}
use Rattle.cat_ledger_laws.specs.shape.Shapes.{Shape}
use Rattle.cat_ledger_laws.specs.shape.Ties.{ToldFiles}
use Rattle.cat_ledger_laws.specs.lines.RunLaws.{Stands}
use Rattle.cat_threads.specs.history.Entries.{writes_in}
use Rattle.cat_threads.specs.history.Rules.{Sight, scribe}

-- The pass is the scribe's; what memory has of the ledger, with a device that tells this, stands for a run from the start, whose accepted
-- writes are the list's; and the token of the newest view is the scribe's.
pub record Agrees (told : ToldFiles) (s : Shape) (from : Opened) (sessions : List ℕ) (v : Sight) : Type 0 where
  pub whole : v ≡ scribe v.list v.token sessions []
  pub run : Run
  pub fits : IsRun from run
  pub fields : from.start.schema ≡ s.schema
  pub stands : Stands told s from run
  pub written : writes run ≡ writes_in v.list
  pub newest : greatest (view_tokens from.start run) ≡ from.start.token + v.token
  pub lowest : AllByRecursion (λ t. from.start.token ≤ t) (view_tokens from.start run)
