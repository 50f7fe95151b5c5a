-- When a device that fails where it is told to fails.
use Rattle.std.specs.Prelude.{◌≡◌, ℕ, zero, suc, Result, Err}
use Rattle.cat_model.specs.cat_base.declared.refusal.Refusal.{Refusal}
use Rattle.cat_model.specs.cat_base.declared.refusal.Refusal.TheVariants.{Device}
use Rattle.cat_directory.specs.declared.faulty.Faults.{Faults}
use Rattle.cat_directory.specs.declared.faulty.Faults.TheVariants as faults
use Rattle.cat_directory.specs.Devices.{CountsOne}

-- the next call fails
abbrev pub IsFaultDue : Faults → Type 0
IsFaultDue (faults.One zero) = Unit {0}
IsFaultDue (faults.All zero) = Unit {0}
IsFaultDue plan = ⊥

-- some call to come fails
abbrev pub IsArmed : Faults → Type 0
IsArmed faults.Never = ⊥
IsArmed plan = Unit {0}

-- which calls fail behind this one: the failure is one call nearer, a single one that came is over, and the others go on
abbrev pub faults_after : Faults → Faults
faults_after faults.Never = faults.Never
faults_after (faults.One zero) = faults.Never
faults_after (faults.One (suc passes)) = faults.One passes
faults_after (faults.All zero) = faults.All zero
faults_after (faults.All (suc passes)) = faults.All passes

-- a failure is counted, and nothing else
abbrev pub Notes : {X : Type 0} → ℕ → ℕ → Result X Refusal → Type 0
Notes old new (Err Device) = CountsOne old new
Notes old new result = new ≡ old
