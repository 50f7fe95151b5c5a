-- What a ledger is that was opened.
use Rattle.std.specs.Prelude.{◌≡◌, ◌⊎◌, ℕ, ◌<◌, []}
use Rattle.cat_model.specs.Item.{Schema}
use Rattle.cat_directory.specs.Devices.{CountsOne}
use Rattle.cat_directory.specs.declared.name.FileName.{FileName}
use Rattle.cat_directory.specs.Names.{name_of}
use Rattle.cat_ledger_laws.specs.model.Users.{users_of}
use Rattle.cat_ledger_laws.specs.shape.Shapes.{Shape}
use Rattle.cat_ledger_laws.specs.shape.Steps.{Leaves}
use Rattle.cat_ledger_laws.specs.shape.Ties.{ToldFiles}
use Rattle.cat_ledger_state.specs.startup.Opened.{HasOpened}
use Rattle.cat_ledger_state.specs.cat_lifetimes.refs.Counts.{IsPending}

-- It was opened, and then what nobody needs was swept: what memory had at first, of the files as they were told, and what the sweep left.
pub record IsOpenedLedger (told : ToldFiles) (schema : Schema) (told' : ToldFiles) (s : Shape) : Type 0 where
  pub state : Shape
  pub opened : HasOpened told schema told state
  pub swept : Leaves [] state s
  pub kept : (q : FileName) → 0 < users_of state.users (name_of q) → told' q ≡ told q

-- Opening counted no failure; or one, where a file that nobody needs couldn't be deleted and is pending. The first argument says whether
-- the directory could fail.
abbrev pub CountsSwept : Type 0 → ℕ → Shape → ℕ → Type 0
CountsSwept can_fail old s new = (new ≡ old) ⊎ (can_fail × CountsOne old new × ((q : FileName) × IsPending s.users q))
