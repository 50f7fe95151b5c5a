-- What calls leave of a directory, and how they fail, said once for all calls of a kind. The first arguments are words of the directory's
-- kind: what it tells of its files, what a crash may leave of them, whether it can fail, and how many failures it has counted.
use Rattle.std.specs.Prelude.{◌≡◌, ℕ, ◌≤◌, Result, IfErr}
use Rattle.cat_model.specs.cat_base.declared.refusal.Refusal.{Refusal}
use Rattle.cat_model.specs.cat_base.declared.refusal.Refusal.TheVariants.{Device, Memory}
use Rattle.cat_directory.specs.declared.name.FileName.{FileName}
use Rattle.cat_directory.specs.Devices.{CountsOne, CountsReading, CountsWriting, FileContent, NoMore, Told}

-- From a directory to the one that a call leaves, whatever it answers, no file changes.
pub record OnlyReads {S : Type 0} (bytes : S → FileName → Told) (may_leave : S → FileName → FileContent → Type 0) (can_fail : S → Type 0)
    (old new : S) : Type 0 where
  -- what is told of each file stays
  pub same : (q : FileName) → bytes new q ≡ bytes old q
  -- a crash leaves nothing more of it
  pub crash : (q : FileName) → NoMore (may_leave old q) (may_leave new q)
  -- it can fail only where it could
  pub can : can_fail new → can_fail old

-- A call that reads is refused for a failure only where the directory can fail, and counts it; damage and want of memory are counted nowhere,
-- and no other refusal is told.
pub record FailsReading {S X : Type 0} (can_fail : S → Type 0) (faults : S → ℕ) (old new : S) (result : Result X Refusal) : Type 0 where
  pub device : IfErr result (λ e. e ≡ Device → can_fail old)
  pub counted : CountsReading (faults old) (faults new) result

-- A call that writes or lists is refused for a failure only where the directory can fail, and counts it; want of memory is counted nowhere, and
-- no other refusal is told. Afterwards the directory can fail only where it could.
pub record FailsWriting {S X : Type 0} (can_fail : S → Type 0) (faults : S → ℕ) (old new : S) (result : Result X Refusal) : Type 0 where
  pub device : IfErr result (λ e. e ≡ Device → can_fail old)
  pub counted : CountsWriting (faults old) (faults new) result
  pub can : can_fail new → can_fail old

-- A call that makes several of a directory's calls, and may be refused for other reasons: for a failure only where the directory can fail, and
-- then one more is counted; for want of memory only where none was. Afterwards the directory can fail only where it could, and no failure is
-- forgotten.
pub record CountsFailures {S X : Type 0} (can_fail : S → Type 0) (faults : S → ℕ) (old new : S) (result : Result X Refusal) : Type 0 where
  pub device : IfErr result (λ e. e ≡ Device → can_fail old)
  pub counted : IfErr result (λ e. e ≡ Device → CountsOne (faults old) (faults new))
  pub memory : IfErr result (λ e. e ≡ Memory → faults new ≡ faults old)
  pub can : can_fail new → can_fail old
  pub rises : faults old ≤ faults new
