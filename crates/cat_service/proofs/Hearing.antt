-- What a line that was heard is answered.
use Rattle.std.proofs.Common.{◌≡◌, ℕ, refl, sym, subst}
use Rattle.std.specs.Prelude.{Option, Some, None, IfSome}
use Rattle.cat_model.specs.Heard.{Heard, Hears}
use Rattle.cat_model.specs.Lines.{IsReadable, Said, ShowsSession}
use Rattle.cat_model.specs.Run.{Command, Reply}
use Rattle.cat_model.specs.Served.{NamesFiles, Outcome}
use Rattle.cat_model.specs.Text.{Text}
use Rattle.cat_items.specs.Reading.{json}
use Rattle.cat_commands.specs.cat_protocol.lines.Line.{SpellsOrShows, said_of}
use Rattle.cat_commands.specs.cat_protocol.declared.lines.command.Command.TheVariants as command
use Rattle.cat_commands.specs.views.Holding.{said_open}
use Rattle.cat_directory.specs.Devices.{FileContent}
use Rattle.cat_directory.specs.declared.name.FileName.{FileName}
use Rattle.cat_commands.specs.cat_ledger.Histories.{GoesBy}
use Rattle.cat_ledger_laws.specs.shape.Ties.{ToldFiles}
use Rattle.cat_ledger_laws.specs.lines.LineLaws.{line_of}
use Rattle.cat_service.proofs.Caused.{failing_by}
use Rattle.cat_service.specs.Cached.{MakesOfSets}
use Rattle.cat_service.specs.Causes.{HasCause, HasFewPending, TakesNumbers}
use Rattle.cat_service.specs.Lines.{IsCommandOf, StepsLine}
use Rattle.cat_service.specs.Reasons.{StepsCaused}
use Rattle.cat_service.specs.Worlds.{Service, device_of, policy_of, shape_of_service}
use Rattle.cat_service.proofs.Histories.{goes_told}
use Rattle.cat_service.proofs.Wanted.{wants_rightly}

-- the exchange of a line with its reply
abbrev pub told_to : ℕ → Command → Reply → Outcome
told_to session c reply = Outcome.replied (record { line = line_of session c; reply = reply })

-- what an OPEN says, with a token or without one
pub open_says : (token : Option ℕ) → said_of (command.Open token) ≡ Some (said_open token)
open_says None = refl
open_says (Some t) = refl

module _ {D : Type 0} (bytes : D → ToldFiles) (may_leave : D → FileName → FileContent → Type 0) (can_fail : D → Type 0) (faults : D → ℕ) (old : Service D) where
  pub unheard : (line : Text) → (IsReadable line → (session : ℕ) → ShowsSession line session → ⊥)
      → StepsCaused bytes may_leave can_fail faults old (Some line) Outcome.unreadable old
  unheard line none = ((Hears.unreadable none, refl), tt)

  -- a line that may be too long
  pub unread : (line : Option Text) → IfSome line (λ l. IsReadable l → ⊥) → StepsCaused bytes may_leave can_fail faults old line Outcome.unreadable old
  unread None none = ((refl, refl), tt)
  unread (Some line) none = unheard line (λ readable session shows. absurd (none readable))

  hears : (line : Text) (session : ℕ) (said : Option Said) (c : Command) → IsReadable line → SpellsOrShows line session said
      → IsCommandOf (shape_of_service old).schema said c → Hears json (shape_of_service old).schema line (Heard.a_line (line_of session c))
  hears line session (Some said) c readable spells is = Hears.spelled session said c readable spells is
  hears line session None c readable shows is =
      subst (λ c. Hears json (shape_of_service old).schema line (Heard.a_line (line_of session c))) (sym is)
      (Hears.formless session readable shows.0 shows.1)

  -- a line that says something, or has no form
  pub heard_as : (new : Service D) (line : Text) (session : ℕ) (said : Option Said) (reply : Reply) → IsReadable line
      → SpellsOrShows line session said → (steps : StepsLine bytes session said old reply new) → (shape_of_service new).schema ≡ (shape_of_service old).schema
      → NamesFiles reply → GoesBy bytes may_leave said reply old.ledger new.ledger
      → HasCause bytes can_fail faults old said reply new → TakesNumbers (shape_of_service old) (shape_of_service new) → policy_of new ≡ policy_of old
      → (can_fail (device_of new) → can_fail (device_of old)) → MakesOfSets session said old reply new → HasFewPending (shape_of_service old)
      → StepsCaused bytes may_leave can_fail faults old (Some line) (told_to session steps.0 reply) new
  heard_as new line session said reply readable spells steps fields names goes cause numbers policy can sets few = (
    (
      hears line session said steps.0 readable spells steps.1,
      (
        fields,
        names,
        steps.2,
        (λ k. wants_rightly (bytes (device_of old)) (shape_of_service old) session said steps.0 steps.1 (steps.3 k)),
        goes_told bytes may_leave old new (shape_of_service old).schema said steps.0 reply steps.1 goes cause.stays,
        (λ k. failing_by can_fail (device_of old) (shape_of_service old) (shape_of_service old).schema said steps.0 steps.1 (cause.device k)),
        can,
      ),
    ),
    (said, steps.1, cause, numbers, steps.4, policy, sets, few),
  )
