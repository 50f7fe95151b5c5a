-- Why none was opened.
use Rattle.std.specs.Prelude.{ℕ}
use Rattle.cat_model.specs.Item.{Schema}
use Rattle.cat_ledger_laws.specs.model.Opening.{Restored, IsForeign, IsRestored}
use Rattle.cat_ledger_laws.specs.shape.Ties.{ToldFiles}
use Rattle.cat_ledger_laws.specs.shape.OpeningLaws.{MayHold}
use Rattle.cat_commits.specs.reading.Told.{Tells}
use Rattle.cat_ledger_state.specs.startup.Newest.{IsNewestCommit}

-- the files hold no commit of this generation under the schema
abbrev pub IsLostUnder : ToldFiles → Schema → ℕ → Type 0
IsLostUnder told schema generation = (r : Restored) → IsRestored (Tells told) schema generation r → ⊥

-- there is a newest commit, and its files hold none under this schema, nor does its own file hold one under another
pub record IsNewestDamaged (told : ToldFiles) (schema : Schema) : Type 0 where
  pub generation : ℕ
  pub newest : IsNewestCommit told generation
  pub lost : IsLostUnder told schema generation
  pub own : IsForeign (Tells told) schema generation → ⊥

-- there is a newest commit, and its file, as it may be, holds one under another schema
pub record IsNewestForeign (told : ToldFiles) (schema : Schema) : Type 0 where
  pub generation : ℕ
  pub newest : IsNewestCommit told generation
  pub foreign : IsForeign (MayHold told) schema generation
