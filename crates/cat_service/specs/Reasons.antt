-- Why each line was told what it was told, as a world is served.
use Rattle.std.specs.Prelude.{◌≡◌, ℕ, List, [], option_map, Option, None, Some, Result, length, IfErr, IfOk}
use Rattle.cat_model.specs.Lines.{Said}
use Rattle.cat_model.specs.Merged.{rows_of_all}
use Rattle.cat_model.specs.Served.{Outcome, SpellsSchema}
use Rattle.cat_model.specs.Text.{Text}
use Rattle.cat_directory.specs.Devices.{FileContent}
use Rattle.cat_directory.specs.declared.name.FileName.{FileName}
use Rattle.cat_commands.specs.cat_ledger.Openings.{CountsSwept, IsOpenedLedger}
use Rattle.cat_commands.specs.ledger.Chores.{stat_in}
use Rattle.cat_ledger_laws.specs.lines.RunLaws.{AnswersCarried}
use Rattle.cat_ledger_laws.specs.shape.Shapes.{MergingShape}
use Rattle.cat_ledger_laws.specs.shape.Ties.{ToldFiles}
use Rattle.cat_commands.specs.cat_protocol.declared.serving.machine.Unopened.{Unopened}
use Rattle.cat_service.specs.Cached.{MakesOfSets}
use Rattle.cat_service.specs.Causes.{HasCause, HasFewPending, TakesNumbers}
use Rattle.cat_service.specs.Lines.{IsCommandOf}
use Rattle.cat_service.specs.Serving.{OpensIfShort, StepsIfShort}
use Rattle.cat_model.specs.Standings.{Cache, Progress, Standing}
use Rattle.cat_model.specs.Reasons.{CountsRefusal}
use Rattle.cat_service.specs.Worlds.{Service, device_of, policy_of, shape_of_service}

-- ---- of a world

abbrev pub progress_of : MergingShape → ℕ × Progress
progress_of m = (m.number, record { passed = m.passed; rows = length (rows_of_all m.inputs) })

-- how a world stands, by how many failures a device has counted, which sets are cached, and which generations were tried by COMMITs that were
-- refused
abbrev pub standing_of_service : {D : Type 0} → (D → ℕ) → Cache → List ℕ → Service D → Standing
standing_of_service faults cache tried w = record {
  stat = stat_in 0 (shape_of_service w);
  merging = option_map progress_of (shape_of_service w).merging;
  cache = cache;
  next_segment = (shape_of_service w).next_segment;
  next_generation = (shape_of_service w).next_generation;
  failures = faults (device_of w);
  tried = tried;
}

-- ---- as a machine

-- It was opened as the ledger says, which also says which failures were counted, and merges as the line says.
abbrev pub OpensSo : {D : Type 0} → (D → ToldFiles) → (D → Type 0) → (D → ℕ) → D → Text → Service D → Type 0
OpensSo bytes can_fail faults device line w =
    IsOpenedLedger (bytes device) (shape_of_service w).schema (bytes (device_of w)) (shape_of_service w)
    × CountsSwept (can_fail device) (faults device) (shape_of_service w) (faults (device_of w))
    × (text : Text) × SpellsSchema line (policy_of w).factor (policy_of w).least text

-- what opening by a first line may give, which may be too long, with how it begins, without cached sets, or which failures a refusal counted
abbrev pub OpensCaused : {D : Type 0} → (D → ToldFiles) → (D → FileName → FileContent → Type 0) → (D → Type 0) → (D → ℕ) → D → Option Text
    → Result (Service D) (Unopened D) → Type 0
OpensCaused bytes may_leave can_fail faults device None r = OpensIfShort bytes may_leave can_fail device None r
OpensCaused bytes may_leave can_fail faults device (Some line) r =
    OpensIfShort bytes may_leave can_fail device (Some line) r
    × IfOk r (λ w. OpensSo bytes can_fail faults device line w × (w.sets ≡ record { cached = []; noted = []; warming = None }))
    × IfErr r (λ u. CountsRefusal (can_fail device) (faults device) (faults u.seed) u.refusal)

-- What a line said, which is its command, has its cause in the world before it, in which few files wait to be deleted, and made what it does of
-- the cached sets; and the command was answered.
abbrev pub IsCausedBy : {D : Type 0} → (D → ToldFiles) → (D → Type 0) → (D → ℕ) → Service D → Outcome → Service D → Type 0
IsCausedBy bytes can_fail faults old Outcome.unreadable new = Unit {0}
IsCausedBy bytes can_fail faults old (Outcome.replied e) new =
    (said : Option Said) × IsCommandOf (shape_of_service old).schema said e.line.command × HasCause bytes can_fail faults old said e.reply new
    × TakesNumbers (shape_of_service old) (shape_of_service new)
    × AnswersCarried (policy_of old) (bytes (device_of old)) (shape_of_service old) e.line e.reply (bytes (device_of new)) (shape_of_service new)
    × (policy_of new ≡ policy_of old) × MakesOfSets e.line.session said old e.reply new × HasFewPending (shape_of_service old)

-- a line, which may be too long, is heard and changes the world, and what it is told has its cause
abbrev pub StepsCaused : {D : Type 0} → (D → ToldFiles) → (D → FileName → FileContent → Type 0) → (D → Type 0) → (D → ℕ) → Service D → Option Text
    → Outcome → Service D → Type 0
StepsCaused bytes may_leave can_fail faults old line told new =
    StepsIfShort bytes may_leave can_fail old line told new × IsCausedBy bytes can_fail faults old told new
