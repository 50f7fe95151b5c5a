-- What a line makes of a world that a call of its ledger answers with a number: one lemma for each kind of line.
use Rattle.std.proofs.Common.{◌≡◌, ℕ, ◌<◌, Bool, true, false, true≢false, List, refl, sym, ◌∙◌, ap, subst, arith}
use Rattle.std.specs.Prelude.{◌⊎◌, Some, Result, Ok, Err, IfErr, OnErr}
use Rattle.cat_base.specs.declared.refusal.Refusal.{Refusal}
use Rattle.cat_base.specs.declared.refusal.Refusal.TheVariants.{Device, Full, Memory, Spent}
use Rattle.cat_model.specs.Heard.{commit_text_of}
use Rattle.cat_model.specs.Limits.{last_number}
use Rattle.cat_model.specs.Lines.{Said}
use Rattle.cat_model.specs.Run.{Reply}
use Rattle.cat_model.specs.Text.{Text}
use Rattle.cat_directory.specs.Devices.{CountsOne, FileContent}
use Rattle.cat_directory.specs.Frames.{CountsFailures}
use Rattle.cat_directory.specs.declared.name.FileName.{FileName}
use Rattle.cat_ledger_laws.specs.lines.LineLaws.{MayRefresh}
use Rattle.cat_ledger_laws.specs.shape.Ties.{ToldFiles}
use Rattle.cat_commands.specs.cat_cached_sets.filters.Filters.{Filters}
use Rattle.cat_commands.specs.cat_ledger.Answering.{AnswersSaid, number_reply}
use Rattle.cat_commands.specs.cat_ledger.Histories.{GoesBy}
use Rattle.cat_commands.specs.cat_ledger.Ledgers.{LedgerOnDevice, device_in, policy_in, shape_in}
use Rattle.cat_commands.specs.cat_ledger.Refusals.{KeepsMerge}
use Rattle.cat_commands.specs.cat_ledger_state.Cores.{MayNotFlush}
use Rattle.cat_commands.specs.cat_protocol.cat_facets.States.{ReaderState}
use Rattle.cat_commands.specs.cat_protocol.declared.replies.answer.Answer as code
use Rattle.cat_commands.specs.cat_protocol.declared.replies.answer.Answer.TheVariants.{Number}
use Rattle.cat_commands.specs.cat_protocol.replies.Reply.{reply_of}
use Rattle.cat_service.specs.Cached.{MakesOfSets}
use Rattle.cat_service.specs.Causes.{HasCause}
use Rattle.cat_service.specs.Lines.{Does}
use Rattle.cat_service.specs.Worlds.{IsWorld, Service}
use Rattle.cat_service.proofs.Caused.{commit_caused, refresh_caused, unchanged_making, unchanged_still}
use Rattle.cat_service.proofs.Kept.{does}
use Rattle.cat_service.proofs.Names.{says_texts}
use Rattle.cat_service.proofs.Wanted.{SaysMayWant, commit_wants, refresh_wants, stopped}

-- the number, as the answer that the arm gives
abbrev pub as_answer : Result ℕ Refusal → Result code.Answer Refusal
as_answer (Ok n) = Ok (Number n)
as_answer (Err e) = Err e

told_as : (r : Result ℕ Refusal) → number_reply r ≡ reply_of (as_answer r)
told_as (Ok n) = refl
told_as (Err e) = refl

pub refused_as : (P : Refusal → Type 0) (r : Result ℕ Refusal) → IfErr r P → IfErr (as_answer r) P
refused_as P (Ok n) h = tt
refused_as P (Err e) h = h

left_as : (A : Type 0) (r : Result ℕ Refusal) → OnErr r A → OnErr (as_answer r) A
left_as A (Ok n) h = tt
left_as A (Err e) h = h

-- a line over the same device, which has no cause of its own
abbrev pub is_plain : Said → Bool
is_plain Said.snapshot = true
is_plain (Said.release_snapshot g) = true
is_plain (Said.prune n) = true
is_plain said = false

module _ {D : Type 0} {f : Filters} {ks : List ReaderState} (bytes : D → ToldFiles) (can_fail : D → Type 0) (faults : D → ℕ) (session : ℕ)
    (old new : LedgerOnDevice D) (r : Result ℕ Refusal) (reply : Reply) (is_told : reply ≡ number_reply r) (w : IsWorld bytes old f ks) where
  abbrev before : Service D
  before = record { ledger = old; sets = f }

  abbrev after : Service D
  after = record { ledger = new; sets = f }

  abbrev result : Result code.Answer Refusal
  result = as_answer r

  -- it does what is said, and so the ledger says
  abbrev DoesSaid : Said → Type 0
  DoesSaid said = Does bytes can_fail faults session (Some said) before reply after

  does_so : (said : Said) → Does bytes can_fail faults session (Some said) before (reply_of result) after → DoesSaid said
  does_so said h = subst (λ x. Does bytes can_fail faults session (Some said) before x after) (sym (told_as r) ∙ sym is_told) h

  abbrev Answers : Said → Type 0
  Answers said = AnswersSaid bytes session said old (number_reply r) new

  answers_so : (said : Said) → Answers said → AnswersSaid bytes session said old (reply_of result) new
  answers_so said answers = subst (λ reply. AnswersSaid bytes session said old reply new) (told_as r) answers

  -- ---- over the same device

  abbrev Quiet : Type 0
  Quiet = (device_in new ≡ device_in old) × OnErr r (new ≡ old)

  abbrev Plainly : Said → Type 0
  Plainly said =
      (says_texts said ≡ false) × HasCause bytes can_fail faults before (Some said) (reply_of result) after
      × MakesOfSets session (Some said) before (reply_of result) after

  plainly : (said : Said) → is_plain said ≡ true → Quiet → Plainly said
  plainly Said.snapshot is q = (refl, record { spent = λ k. tt; device = λ k. tt; counted = λ k. tt; damaged = λ k. tt; reached = λ k. tt; quiet = λ k. ap faults q.0; told = tt; swept = tt; rises = omega (arith, ap faults q.0); stays = tt; keeps = tt; making = unchanged_making old new result (Some Said.snapshot) (left_as (new ≡ old) r q.1); still = unchanged_still old new result (left_as (new ≡ old) r q.1) }, refl)
  plainly (Said.release_snapshot g) is q = (refl, record { spent = λ k. tt; device = λ k. tt; counted = λ k. tt; damaged = λ k. tt; reached = λ k. tt; quiet = λ k. ap faults q.0; told = tt; swept = tt; rises = omega (arith, ap faults q.0); stays = tt; keeps = tt; making = unchanged_making old new result (Some (Said.release_snapshot g)) (left_as (new ≡ old) r q.1); still = unchanged_still old new result (left_as (new ≡ old) r q.1) }, refl)
  plainly (Said.prune n) is q = (refl, record { spent = λ k. tt; device = λ k. tt; counted = λ k. tt; damaged = λ k. tt; reached = λ k. tt; quiet = λ k. ap faults q.0; told = tt; swept = tt; rises = omega (arith, ap faults q.0); stays = tt; keeps = tt; making = unchanged_making old new result (Some (Said.prune n)) (left_as (new ≡ old) r q.1); still = unchanged_still old new result (left_as (new ≡ old) r q.1) }, refl)
  plainly _ is q = absurd (true≢false (sym is))

  pub plain_does : (said : Said) → is_plain said ≡ true → Answers said → Quiet → policy_in new ≡ policy_in old
      → (result ≡ Err Memory → SaysMayWant (bytes (device_in old)) (shape_in old) session said) → DoesSaid said
  plain_does said is answers quiet policy wants =
      let p = plainly said is quiet in
      does_so said (does bytes can_fail faults session said old (reply_of result) new f w p.1 p.2 (answers_so said answers) (subst can_fail quiet.0) policy p.0
      (λ k. wants (stopped result k)))

  -- ---- over a device that may fail

  abbrev Fails : Type 0
  Fails = CountsFailures can_fail faults (device_in old) (device_in new) r

  fails_so : Fails → CountsFailures can_fail faults (device_in old) (device_in new) result
  fails_so fails = record {
    device = refused_as (λ e. e ≡ Device → can_fail (device_in old)) r fails.device;
    counted = refused_as (λ e. e ≡ Device → CountsOne (faults (device_in old)) (faults (device_in new))) r fails.counted;
    memory = refused_as (λ e. e ≡ Memory → faults (device_in new) ≡ faults (device_in old)) r fails.memory;
    can = fails.can;
    rises = fails.rises;
  }

  abbrev KeepsMaking : Type 0
  KeepsMaking = KeepsMerge (shape_in old) (shape_in new)

  abbrev NotDue : Refusal → Type 0
  NotDue e = (e ≡ Memory) ⊎ (e ≡ Device) → MayNotFlush (shape_in old) → ⊥

  pub refresh_does : Answers Said.refresh → Fails → policy_in new ≡ policy_in old → OnErr r KeepsMaking
      → IfErr r (λ e. e ≡ Spent → MayNotFlush (shape_in old)) → ((MayRefresh (shape_in old) → ⊥) → (r ≡ Err Full) × (new ≡ old)) → IfErr r NotDue
      → DoesSaid Said.refresh
  refresh_does answers fails policy keeps spent full due =
      does_so Said.refresh (does bytes can_fail faults session Said.refresh old (reply_of result) new f w
      (refresh_caused bytes can_fail faults old f result new f (refused_as (λ e. e ≡ Spent → MayNotFlush (shape_in old)) r spent) (fails_so fails)
      (left_as KeepsMaking r keeps)) refl (answers_so Said.refresh answers) fails.can policy refl
      (λ k. refresh_wants (bytes (device_in old)) (shape_in old) session result (stopped result k)
      (λ no. let m = full no in (ap as_answer m.0, m.1)) (refused_as NotDue r due)))

  abbrev MaySpend : Refusal → Type 0
  MaySpend e = e ≡ Spent → (last_number < (shape_in old).next_generation) ⊎ MayNotFlush (shape_in old)

  wrong_so : (judged : Result Text Refusal) → IfErr judged (λ e. (r ≡ Err e) × (new ≡ old)) → IfErr judged (λ e. (result ≡ Err e) × (new ≡ old))
  wrong_so (Ok text) wrong = tt
  wrong_so (Err e) wrong = (ap as_answer wrong.0, wrong.1)

  pub commit_does : (may : D → FileName → FileContent → Type 0) (text : Text) → Answers (Said.commit text) → Fails → policy_in new ≡ policy_in old
      → OnErr r KeepsMaking → IfErr (commit_text_of text) (λ e. (r ≡ Err e) × (new ≡ old))
      → (commit_text_of text ≡ Ok text → last_number < (shape_in old).next_generation → (r ≡ Err Spent) × (new ≡ old))
      → (commit_text_of text ≡ Ok text → IfErr r MaySpend) → IfErr r NotDue → GoesBy bytes may (Some (Said.commit text)) (number_reply r) old new
      → DoesSaid (Said.commit text)
  commit_does may text answers fails policy keeps wrong none spent due goes =
      does_so (Said.commit text) (does bytes can_fail faults session (Said.commit text) old (reply_of result) new f w
      (commit_caused bytes can_fail faults old f result new f may text (wrong_so (commit_text_of text) wrong)
      (λ right. refused_as MaySpend r (spent right)) (fails_so fails)
      (subst (λ reply. GoesBy bytes may (Some (Said.commit text)) reply old new) (told_as r) goes) (left_as KeepsMaking r keeps))
      refl (answers_so (Said.commit text) answers) fails.can policy refl
      (λ k. commit_wants (bytes (device_in old)) (shape_in old) session result (stopped result k) (new ≡ old) text (wrong_so (commit_text_of text) wrong)
      (λ right more. let m = none right more in (ap as_answer m.0, m.1)) (refused_as NotDue r due)))
