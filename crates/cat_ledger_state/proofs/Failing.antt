-- How calls fail that are made of one that writes.
use Rattle.std.proofs.Common.{◌≡◌, ◌⊎◌, ℕ, ◌≤◌, Result, Ok, Err, arith, inl, inr, refl, subst, sym, ◌∙◌}
use Rattle.std.specs.Prelude.{◌≢◌, IsErr, IsErrAnd}
use Rattle.cat_base.specs.declared.refusal.Refusal.{Refusal}
use Rattle.cat_base.specs.declared.refusal.Refusal.TheVariants.{Device, Memory, Spent}
use Rattle.cat_directory.specs.Devices.{WritingCount}
use Rattle.cat_directory.specs.Frames.{CountsFailures, FailsWriting}

-- what writing counts is no less than before
writing_rises : (old new : ℕ) (e : Refusal) → WritingCount old new e → old ≤ new
writing_rises old new Memory same = omega (arith, same)
writing_rises old new Device one = omega (arith, one)
writing_rises old new _ never = absurd never

-- what writing is refused for, where a want of numbers is told too
pub writing_refuses : (old new : ℕ) (e : Refusal) → WritingCount old new e → (e ≡ Memory) ⊎ (e ≡ Device) ⊎ (e ≡ Spent)
writing_refuses old new Memory same = inl refl
writing_refuses old new Device one = inr (inl refl)
writing_refuses old new _ never = absurd never

-- which is none
pub writing_spends_none : (old new : ℕ) (e : Refusal) → WritingCount old new e → e ≢ Spent
writing_spends_none old new Memory same = λ is. cc
writing_spends_none old new Device one = λ is. cc
writing_spends_none old new _ never = absurd never

-- one that writes counts its failures
pub writing_counts : {S : Type 0} {can_fail : S → Type 0} {faults : S → ℕ} {X : Type 0} {old new : S} (r : Result X Refusal)
    → FailsWriting can_fail faults old new r → CountsFailures can_fail faults old new r
writing_counts (Ok x) f = record { device = tt; counted = tt; memory = tt; can = f.can; rises = omega (arith, f.counted) }
writing_counts {S} {can_fail} {faults} {X} {old} {new} (Err e) f = record {
  device = f.device;
  counted = λ is. subst (λ x. WritingCount (faults old) (faults new) x) is f.counted;
  memory = λ is. subst (λ x. WritingCount (faults old) (faults new) x) is f.counted;
  can = f.can;
  rises = writing_rises (faults old) (faults new) e f.counted;
}

-- a want of memory that is passed on, and counts nothing
pub quiet_counts : {S : Type 0} {can_fail : S → Type 0} {faults : S → ℕ} {X : Type 0} {now : S} (r : Result X Refusal)
    → IsErr r × IsErrAnd r (λ e. e ≡ Memory) → CountsFailures can_fail faults now now r
quiet_counts (Ok x) is = absurd is.1
quiet_counts (Err e) is = record {
  device = λ device. let no : Memory ≡ Device = sym is.1 ∙ device in cc;
  counted = λ device. let no : Memory ≡ Device = sym is.1 ∙ device in cc;
  memory = λ memory. refl;
  can = λ can. can;
  rises = omega arith;
}
