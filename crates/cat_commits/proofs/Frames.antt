-- What calls leave of a directory and how they fail, one after another.
use Rattle.std.proofs.Common.{◌≡◌, ◌∙◌, ℕ, sym, subst, Result, Ok, Err}
use Rattle.std.specs.Prelude.{◌⊎◌, IsErr, IsErrAnd}
use Rattle.std.proofs.lemmas.Result.{IfErr-weaker}
use Rattle.cat_base.specs.declared.refusal.Refusal.{Refusal}
use Rattle.cat_base.specs.declared.refusal.Refusal.TheVariants.{Damaged, Device, Memory, Kind}
use Rattle.cat_directory.specs.declared.name.FileName.{FileName}
use Rattle.cat_directory.specs.Devices.{CountsReading, FileContent, ReadingCount}
use Rattle.cat_directory.specs.Frames.{FailsReading, OnlyReads}
use Rattle.cat_ledger_laws.specs.shape.Ties.{ToldFiles}
use Rattle.cat_commits.specs.reading.Refused.{CountsOpening, OpeningCount}
use Rattle.cat_commits.proofs.reading.Parts.{as_one}
use Rattle.cat_commits.proofs.reading.Reading.{counts_judged, counts_on, judged, passed}

module _ {S : Type 0} {bytes : S → ToldFiles} {may_leave : S → FileName → FileContent → Type 0} {can_fail : S → Type 0} where
  -- one call that only reads after another
  pub reads_on : {a b c : S} → OnlyReads bytes may_leave can_fail a b → OnlyReads bytes may_leave can_fail b c → OnlyReads bytes may_leave can_fail a c
  reads_on first second = record {
    same = λ q. second.same q ∙ first.same q;
    crash = λ q e left. first.crash q e (second.crash q e left);
    can = λ fails. first.can (second.can fails);
  }

  -- what is told of all files
  pub told_before : {a b : S} → OnlyReads bytes may_leave can_fail a b → bytes b ≡ bytes a
  told_before {a} {b} frame = as_one (bytes a) (bytes b) frame.same

  -- what the files say afterwards they said before
  pub so_before : {a b : S} (P : ToldFiles → Type 0) → OnlyReads bytes may_leave can_fail a b → P (bytes b) → P (bytes a)
  so_before P frame h = subst P (told_before frame) h

  -- what they said before they say afterwards
  pub so_after : {a b : S} (P : ToldFiles → Type 0) → OnlyReads bytes may_leave can_fail a b → P (bytes a) → P (bytes b)
  so_after P frame h = subst P (sym (told_before frame)) h

module _ {S X : Type 0} {can_fail : S → Type 0} {faults : S → ℕ} where
  -- a call that reads, where a `?` passes its refusal on
  pub fails_on : {T : Type 0} {a b : S} {r : Result X Refusal} {e : Refusal} → IsErr r × IsErrAnd r (λ x. x ≡ e) → FailsReading {X = T} can_fail faults a b (Err e)
      → FailsReading can_fail faults a b r
  fails_on {T} {a} {b} {r} {e} so f = record {
    device = passed (λ (x : Refusal). x ≡ Device → can_fail a) r e so f.device;
    counted = counts_on (faults a) (faults b) r e so f.counted;
  }

  -- behind calls that count nothing
  pub fails_after : {a b c : S} {r : Result X Refusal} → (can_fail b → can_fail a) → faults b ≡ faults a → FailsReading can_fail faults b c r → FailsReading can_fail faults a c r
  fails_after {a} {b} {c} {r} can same f = record {
    device = IfErr-weaker r _ _ (λ e given is. can (given is)) f.device;
    counted = subst (λ (n : ℕ). CountsReading n (faults c) r) same f.counted;
  }

  -- what judges bytes fails for no device, where a `?` passes its refusal on
  pub fails_judged : {a b : S} {r : Result X Refusal} {e : Refusal} → IsErr r × IsErrAnd r (λ x. x ≡ e) → faults b ≡ faults a → (e ≡ Damaged) ⊎ (e ≡ Memory)
      → FailsReading can_fail faults a b r
  fails_judged {a} {b} {r} {e} so same is = record {
    device = passed (λ (x : Refusal). x ≡ Device → can_fail a) r e so (judged (can_fail a) e is);
    counted = counts_on (faults a) (faults b) r e so (counts_judged (faults a) (faults b) e is same);
  }

-- a call that reads is refused for no other kind
pub no_kind : (X : Type 0) (old new : ℕ) (e : Refusal) → ReadingCount old new e → e ≡ Kind → X
no_kind X old new e counted is = absurd (subst (ReadingCount old new) is counted)

-- what a call that reads counts, an opening counts too
reading_opens : (old new : ℕ) (e : Refusal) → ReadingCount old new e → OpeningCount old new e
reading_opens old new Kind counted = absurd counted
reading_opens old new e counted = counted

-- where a `?` passes its refusal on
pub opening_counts : {T : Type 0} (old new : ℕ) (r : Result T Refusal) (e : Refusal) → IsErr r × IsErrAnd r (λ x. x ≡ e) → ReadingCount old new e → CountsOpening old new r
opening_counts old new (Ok v) e so counted = absurd so.1
opening_counts old new (Err x) e so counted = reading_opens old new x (subst (ReadingCount old new) (sym so.1) counted)
