-- What a refused opening does to the count of failures.
use Rattle.std.specs.Prelude.{◌≡◌, ℕ, Result, Ok, Err}
use Rattle.cat_base.specs.declared.refusal.Refusal.{Refusal}
use Rattle.cat_base.specs.declared.refusal.Refusal.TheVariants.{Kind}
use Rattle.cat_directory.specs.Devices.{ReadingCount}

-- as a call that reads, where the schema may also be another one
abbrev pub OpeningCount : ℕ → ℕ → Refusal → Type 0
OpeningCount old new Kind = new ≡ old
OpeningCount old new e = ReadingCount old new e

-- a failure is counted, and nothing else
abbrev pub CountsOpening : {X : Type 0} → ℕ → ℕ → Result X Refusal → Type 0
CountsOpening old new (Ok x) = new ≡ old
CountsOpening old new (Err e) = OpeningCount old new e
