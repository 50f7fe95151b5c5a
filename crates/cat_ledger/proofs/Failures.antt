-- How calls fail that are made of others.
use Rattle.std.proofs.Common.{◌≡◌, ◌⊎◌, ℕ, ◌≤◌, Result, Ok, Err, arith, inl, inr, refl, subst}
use Rattle.std.specs.Prelude.{◌≢◌, IfErr}
use Rattle.cat_base.specs.declared.refusal.Refusal.{Refusal}
use Rattle.cat_base.specs.declared.refusal.Refusal.TheVariants.{Damaged, Device, Kind, Memory, Spent}
use Rattle.cat_directory.specs.Devices.{CountsReading, CountsWriting, ReadingCount, WritingCount}
use Rattle.cat_directory.specs.Frames.{CountsFailures, FailsWriting}

-- want of memory is no failure
pub memory_is_none : Memory ≢ Device
memory_is_none = λ h. cc h

-- what reading counts is no less than before
reading_rises : (old new : ℕ) (e : Refusal) → ReadingCount old new e → old ≤ new
reading_rises old new Memory same = omega (arith, same)
reading_rises old new Damaged same = omega (arith, same)
reading_rises old new Device one = omega (arith, one)
reading_rises old new _ never = absurd never

-- what a flush is refused for is no fault of an item
pub none_is_kind : (e : Refusal) → (e ≡ Memory) ⊎ (e ≡ Device) ⊎ (e ≡ Spent) → e ≢ Kind
none_is_kind e is kind = elim is [
  | inl memory ↦ cc
  | inr (inl device) ↦ cc
  | inr (inr spent) ↦ cc
]

-- what a merge in the making is refused for is no want of numbers
pub none_is_spent : (e : Refusal) → (e ≡ Memory) ⊎ (e ≡ Device) ⊎ (e ≡ Damaged) → e ≢ Spent
none_is_spent e is spent = elim is [
  | inl memory ↦ cc
  | inr (inl device) ↦ cc
  | inr (inr damaged) ↦ cc
]

-- what reading is refused for
pub reading_refusals : (old new : ℕ) (e : Refusal) → ReadingCount old new e → (e ≡ Memory) ⊎ (e ≡ Device) ⊎ (e ≡ Damaged)
reading_refusals old new Memory same = inl refl
reading_refusals old new Damaged same = inr (inr refl)
reading_refusals old new Device one = inr (inl refl)
reading_refusals old new _ never = absurd never

-- what writing is refused for
pub writing_refusals : {X : Type 0} (old new : ℕ) (r : Result X Refusal) → CountsWriting old new r → IfErr r (λ e. (e ≡ Memory) ⊎ (e ≡ Device))
writing_refusals old new (Ok x) same = tt
writing_refusals old new (Err Memory) same = inl refl
writing_refusals old new (Err Device) one = inr refl
writing_refusals old new (Err _) never = absurd never

module _ {S : Type 0} {can_fail : S → Type 0} {faults : S → ℕ} where
  -- one that counts nothing, and isn't refused for a failure
  pub quiet_fails : {X : Type 0} {old new : S} (r : Result X Refusal) → IfErr r (λ e. e ≡ Device → ⊥) → faults new ≡ faults old
      → (can_fail new → can_fail old) → CountsFailures can_fail faults old new r
  quiet_fails (Ok x) never same can = record { device = tt; counted = tt; memory = tt; can = can; rises = omega (arith, same) }
  quiet_fails (Err e) never same can = record {
    device = λ is. absurd (never is);
    counted = λ is. absurd (never is);
    memory = λ is. same;
    can = can;
    rises = omega (arith, same);
  }

  -- one that leaves the directory as it is
  pub none_fails : {X : Type 0} (d : S) (r : Result X Refusal) → IfErr r (λ e. e ≡ Device → ⊥) → CountsFailures can_fail faults d d r
  none_fails d r never = quiet_fails r never refl (λ fails. fails)

  -- one that answers what another answered
  pub fails_as : {X Y : Type 0} {old new : S} (r : Result X Refusal) (t : Result Y Refusal) → ((P : Refusal → Type 0) → IfErr r P → IfErr t P)
      → CountsFailures can_fail faults old new r → CountsFailures can_fail faults old new t
  fails_as r t same f = record {
    device = same _ f.device;
    counted = same _ f.counted;
    memory = same _ f.memory;
    can = f.can;
    rises = f.rises;
  }

  -- one that writes
  pub writing_fails : {X : Type 0} {old new : S} (r : Result X Refusal) → FailsWriting can_fail faults old new r → faults old ≤ faults new
      → CountsFailures can_fail faults old new r
  writing_fails (Ok x) f up = record { device = tt; counted = tt; memory = tt; can = f.can; rises = up }
  writing_fails {X} {old} {new} (Err e) f up = record {
    device = f.device;
    counted = λ is. subst (λ x. WritingCount (faults old) (faults new) x) is f.counted;
    memory = λ is. subst (λ x. WritingCount (faults old) (faults new) x) is f.counted;
    can = f.can;
    rises = up;
  }

  -- one that reads
  pub reading_fails : {X : Type 0} {old new : S} (r : Result X Refusal) → IfErr r (λ e. e ≡ Device → can_fail old)
      → CountsReading (faults old) (faults new) r → (can_fail new → can_fail old) → CountsFailures can_fail faults old new r
  reading_fails (Ok x) device counted can = record { device = tt; counted = tt; memory = tt; can = can; rises = omega (arith, counted) }
  reading_fails {X} {old} {new} (Err e) device counted can = record {
    device = device;
    counted = λ is. subst (λ x. ReadingCount (faults old) (faults new) x) is counted;
    memory = λ is. subst (λ x. ReadingCount (faults old) (faults new) x) is counted;
    can = can;
    rises = reading_rises (faults old) (faults new) e counted;
  }

pub either : {A B Other : Type 0} → (A → B) → A ⊎ Other → B ⊎ Other
either f (inl a) = inl (f a)
either f (inr other) = inr other

-- So it does where a failure may also have another reason.
module _ {S : Type 0} {can_fail : S → Type 0} {faults : S → ℕ} {Other : Type 0} where
  pub fails_or : {X : Type 0} {old new : S} (r : Result X Refusal) → CountsFailures can_fail faults old new r
      → CountsFailures (λ d. can_fail d ⊎ Other) faults old new r
  fails_or (Ok x) f = record { device = tt; counted = tt; memory = tt; can = either f.can; rises = f.rises }
  fails_or (Err e) f = record {
    device = λ is. inl (f.device is);
    counted = f.counted;
    memory = f.memory;
    can = either f.can;
    rises = f.rises;
  }
