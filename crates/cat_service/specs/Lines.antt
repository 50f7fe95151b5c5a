-- What a line makes of a world.
use Rattle.std.specs.Prelude.{◌≡◌, ℕ, Option, None, Some, Err}
use Rattle.cat_base.specs.declared.refusal.Refusal.TheVariants.{Memory}
use Rattle.cat_model.specs.Heard.{IsCommand}
use Rattle.cat_model.specs.Item.{Schema}
use Rattle.cat_model.specs.Lines.{Said}
use Rattle.cat_model.specs.Run.{Command, Reply}
use Rattle.cat_model.specs.Served.{NamesFiles}
use Rattle.cat_items.specs.Reading.{json}
use Rattle.cat_ledger_laws.specs.shape.Ties.{ToldFiles}
use Rattle.cat_ledger_laws.specs.lines.LineLaws.{line_of}
use Rattle.cat_ledger_laws.specs.lines.RunLaws.{AnswersCarried, IsStep}
use Rattle.cat_service.specs.Cached.{MakesOfSets}
use Rattle.cat_service.specs.Causes.{HasCause, TakesNumbers}
use Rattle.cat_service.specs.Named.{TellsNeeded}
use Rattle.cat_service.specs.Wanting.{MayWant}
use Rattle.cat_service.specs.Worlds.{Service, device_of, policy_of, shape_of_service}

-- a line without a form, or that says this, is this command under the schema
abbrev pub IsCommandOf : Schema → Option Said → Command → Type 0
IsCommandOf schema None c = c ≡ Command.formless
IsCommandOf schema (Some said) c = IsCommand json schema said c

-- The reply answers what the session says, for every ledger of the model that is carried. The first argument says what a device tells
-- of its files.
abbrev pub AnswersLine : {D : Type 0} → (D → ToldFiles) → ℕ → Option Said → Service D → Reply → Service D → Type 0
AnswersLine bytes session said old reply new =
    (c : Command) × IsCommandOf (shape_of_service old).schema said c
    × AnswersCarried (policy_of old) (bytes (device_of old)) (shape_of_service old) (line_of session c) reply (bytes (device_of new)) (shape_of_service new)

-- Whatever run led here, a reply that is shown so fits it, and what is left stands for the longer run. Want of memory is told only where
-- that may be. And so every ledger of the model that is carried goes on.
abbrev pub StepsLine : {D : Type 0} → (D → ToldFiles) → ℕ → Option Said → Service D → Reply → Service D → Type 0
StepsLine bytes session said old reply new =
    (c : Command) × IsCommandOf (shape_of_service old).schema said c
    × IsStep (bytes (device_of old)) (shape_of_service old) (line_of session c) reply (bytes (device_of new)) (shape_of_service new)
    × (reply ≡ Err Memory → MayWant (bytes (device_of old)) (shape_of_service old) session said c)
    × AnswersCarried (policy_of old) (bytes (device_of old)) (shape_of_service old) (line_of session c) reply (bytes (device_of new)) (shape_of_service new)

-- What an answered line makes of a world: the reply answers it, and tells the names that are needed, which are those
-- of files, and a source that is one line; it says that memory was wanting only where that may be told, and has its cause in what memory has; the
-- cached sets are used and made as the line says; a device that can't fail goes on so; and neither the fields change nor when it merges.
pub record Does {D : Type 0} (bytes : D → ToldFiles) (can_fail : D → Type 0) (faults : D → ℕ) (session : ℕ) (said : Option Said)
    (old : Service D) (reply : Reply) (new : Service D) : Type 0 where
  pub answers : AnswersLine bytes session said old reply new
  pub told : TellsNeeded (shape_of_service old) said reply
  pub names : NamesFiles reply
  pub wanting : reply ≡ Err Memory → MayWant (bytes (device_of old)) (shape_of_service old) session said answers.0
  pub cause : HasCause bytes can_fail faults old said reply new
  pub sets : MakesOfSets session said old reply new
  pub numbers : TakesNumbers (shape_of_service old) (shape_of_service new)
  pub can : can_fail (device_of new) → can_fail (device_of old)
  pub schema : (shape_of_service new).schema ≡ (shape_of_service old).schema
  pub policy : policy_of new ≡ policy_of old
