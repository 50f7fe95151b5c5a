-- The causes of replies, as those who answer tell them.
use Rattle.std.proofs.Common.{◌≡◌, ◌≢◌, ℕ, ◌<◌, ◌≤◌, List, Bool, true, false, true≢false, cond, ltb, length, refl, sym, ◌∙◌, ap, subst, inl, inr}
use Rattle.std.specs.Prelude.{◌⊎◌, Option, None, Some, Result, Ok, Err, IfErr, IfOk, IsTrue, OnErr}
use Rattle.std.specs.List.{list_all}
use Rattle.std.proofs.lemmas.Bool.Decides.{eqb_tells}
use Rattle.cat_base.specs.declared.refusal.Refusal.{Refusal}
use Rattle.cat_base.specs.declared.refusal.Refusal.TheVariants.{Damaged, Device, Kind as WrongKind, Large, Line as NoForm, Memory, Spent}
use Rattle.cat_model.specs.Forms.{is_plain_byte}
use Rattle.cat_model.specs.Answer.{Read}
use Rattle.cat_model.specs.Heard.{commit_text_of}
use Rattle.cat_model.specs.Item.{Schema}
use Rattle.cat_model.specs.Limits.{buffer_limit, commit_text_limit, last_number}
use Rattle.cat_model.specs.Lines.{Said}
use Rattle.cat_model.specs.Run.{Answer, Chore, Command, Reply, may_refuse}
use Rattle.cat_model.specs.Text.{Text}
use Rattle.cat_model.specs.View.{View}
use Rattle.cat_directory.specs.Devices.{CountsOne, FileContent}
use Rattle.cat_directory.specs.Frames.{CountsFailures}
use Rattle.cat_directory.specs.declared.name.FileName.{FileName}
use Rattle.cat_commands.specs.views.Holding.{said_open}
use Rattle.cat_commands.specs.ledger.Chores.{IsSwept, IsWarmTold, KeepsBehind, MayRefuse, MayRefuseForce, MayRefuseMerge, ReachesFor, TellsChore, chore_of}
use Rattle.cat_commands.specs.declared.ledger.chores.Chore as code_chore
use Rattle.cat_commands.specs.declared.ledger.chores.Chore.TheVariants.{Force, Merge, Stat, Sweep}
use Rattle.cat_commands.specs.cat_cached_sets.filters.Filters.{Filters}
use Rattle.cat_commands.specs.cat_ledger.Answering.{AnswersSaid}
use Rattle.cat_commands.specs.cat_ledger.Histories.{GoesBy}
use Rattle.cat_commands.specs.cat_ledger.Ledgers.{LedgerOnDevice, device_in, policy_in, shape_in}
use Rattle.cat_commands.specs.cat_ledger.Refusals.{KeepsMerge}
use Rattle.cat_commands.specs.cat_ledger_state.Cores.{LacksInput, LacksToCopy, MayCopy, MayNotFlush}
use Rattle.cat_ledger_laws.specs.lines.LineLaws.{line_of}
use Rattle.cat_ledger_laws.specs.lines.ReadLaws.{IsRecordedAs}
use Rattle.cat_ledger_laws.specs.lines.RunLaws as lines
use Rattle.cat_ledger_laws.proofs.lines.Planned.{merges_tell}
use Rattle.cat_ledger_laws.specs.shape.Shapes.{Shape}
use Rattle.cat_ledger_laws.specs.shape.Ties.{ToldFiles}
use Rattle.cat_commands.specs.cat_protocol.replies.Reply.{answer_of, reply_of}
use Rattle.cat_commands.specs.cat_protocol.declared.replies.answer.Answer as code
use Rattle.cat_commands.specs.cat_protocol.cat_views.Sources.{HoldsSource, MayReachSource, TellsSource}
use Rattle.cat_service.specs.Serving.{MayFailBy}
use Rattle.cat_service.specs.Causes.{HasCause, IsDamagedTo, IsSpentTo, KeepsIfRefused, MayFailTo, MayReachTo, SweepsSo, TellsSo}
use Rattle.cat_service.specs.Lines.{IsCommandOf}
use Rattle.cat_service.specs.Worlds.{Service}
use Rattle.cat_commands.specs.cat_ledger.Lasting.{IsCarried}

-- ---- replies

-- what is said of the refusal that is given
refused_so : (P : Refusal → Type 0) (result : Result code.Answer Refusal) (e : Refusal) → IfErr result P → reply_of result ≡ Err e → P e
refused_so P (Ok a) e h is = absurd (let no : ◌≡◌ {A = Reply} (Ok (answer_of a)) (Err e) = is in cc)
refused_so P (Err x) e h is = subst P (one x e is) h
  where
    one : (x e : Refusal) → ◌≡◌ {A = Reply} (Err x) (Err e) → x ≡ e
    one x e is = cc

-- and of that it is given
given_so : (A : Type 0) (x : Refusal) (result : Result code.Answer Refusal) (e : Refusal) → IfErr result (λ y. y ≡ x → A) → x ≡ e → reply_of result ≡ Err e → A
given_so A x result e h same is = refused_so (λ y. y ≡ x → A) result e h is (sym same)

-- another reply isn't given
not_told : (result : Result code.Answer Refusal) (x : Refusal) (reply : Reply) → (Err x ≢ reply) → result ≡ Err x → reply_of result ≡ reply → ⊥
not_told result x reply differs given is = differs (sym (ap reply_of given) ∙ is)

-- what is kept behind a refusal, as it is told
kept_so : (A : Type 0) (P : Reply → Type 0) → ((a : Answer) → P (Ok a)) → ((e : Refusal) → A → P (Err e)) → (result : Result code.Answer Refusal) → OnErr result A
    → P (reply_of result)
kept_so A P ok err (Ok a) h = ok (answer_of a)
kept_so A P ok err (Err e) h = err e h

-- so of the merge in the making, behind a refusal of any line but a MERGE
pub kept_making : (A : Type 0) (result : Result code.Answer Refusal) (said : Option Said) → OnErr result A
    → (e : Refusal) → reply_of result ≡ Err e → said ≢ Some (Said.chore Chore.merge) → A
kept_making A (Ok a) said h e is other = absurd (let no : ◌≡◌ {A = Reply} (Ok (answer_of a)) (Err e) = is in cc)
kept_making A (Err x) said h e is other = h

-- where the ledger is as it was
pub unchanged_making : {D : Type 0} (old left : LedgerOnDevice D) (result : Result code.Answer Refusal) (said : Option Said) → OnErr result (left ≡ old)
    → (e : Refusal) → reply_of result ≡ Err e → said ≢ Some (Said.chore Chore.merge) → (shape_in left).merging ≡ (shape_in old).merging
unchanged_making old left result said h e is other = ap (λ l. (shape_in l).merging) (kept_making (left ≡ old) result said h e is other)

-- a line that moves no file and is refused leaves the ledger as it is kept
pub kept_still : {B : Type 0} (A : Type 0) (result : Result code.Answer Refusal) → OnErr result A → (e : Refusal) → reply_of result ≡ Err e → B → A
kept_still A (Ok a) h e is other = absurd (let no : ◌≡◌ {A = Reply} (Ok (answer_of a)) (Err e) = is in cc)
kept_still A (Err x) h e is other = h

pub unchanged_still : {D B : Type 0} (old left : LedgerOnDevice D) (result : Result code.Answer Refusal) → OnErr result (left ≡ old)
    → (e : Refusal) → reply_of result ≡ Err e → B → shape_in left ≡ shape_in old
unchanged_still old left result h e is other = ap shape_in (kept_still (left ≡ old) result h e is other)

module _ {D : Type 0} (bytes : D → ToldFiles) (can_fail : D → Type 0) (faults : D → ℕ) (old : LedgerOnDevice D) (f : Filters)
    (result : Result code.Answer Refusal) (left : LedgerOnDevice D) (f' : Filters) where
  abbrev world : Service D
  world = record { ledger = old; sets = f }

  abbrev after : Service D
  after = record { ledger = left; sets = f' }

  abbrev Counted : Type 0
  Counted = CountsOne (faults (device_in old)) (faults (device_in left))

  -- no failure is counted
  abbrev Quiet : Type 0
  Quiet = faults (device_in left) ≡ faults (device_in old)

  -- no failure is forgotten
  abbrev Rises : Type 0
  Rises = faults (device_in old) ≤ faults (device_in left)

  -- how it fails, where it does
  abbrev Fails : Type 0
  Fails = CountsFailures can_fail faults (device_in old) (device_in left) result

  abbrev KeepsMaking : Type 0
  KeepsMaking = KeepsMerge (shape_in old) (shape_in left)

  -- what the line keeps that is refused
  abbrev Keeps : Said → Reply → Type 0
  Keeps said reply = KeepsIfRefused (Some said) reply (shape_in old) (shape_in left)

  abbrev Causes : Said → Type 0
  Causes said = HasCause bytes can_fail faults world (Some said) (reply_of result) after

  pub put_caused : (text : Text)
      → IfErr result (λ e. e ≡ Spent → (last_number ≤ (shape_in old).count) ⊎ ((buffer_limit ≤ length (shape_in old).buffered) × MayNotFlush (shape_in old)))
      → Fails → OnErr result KeepsMaking → Causes (Said.put text)
  put_caused text spent fails stays = record {
    spent = given_so (IsSpentTo (policy_in old) (shape_in old) (Some (Said.put text))) Spent result Spent spent refl;
    device = given_so (can_fail (device_in old)) Device result Device fails.device refl;
    counted = given_so Counted Device result Device fails.counted refl;
    damaged = λ k. tt;
    reached = λ k. tt;
    quiet = given_so Quiet Memory result Memory fails.memory refl;
    told = tt;
    swept = tt;
    rises = fails.rises;
    stays = tt;
    keeps = kept_so KeepsMaking (Keeps (Said.put text)) (λ a. tt) (λ e kept. kept) result stays;
    making = λ e k other. (kept_making KeepsMaking result (Some (Said.put text)) stays e k other).merging;
    still = λ e k other. absurd (true≢false other);
  }

  pub refresh_caused : IfErr result (λ e. e ≡ Spent → MayNotFlush (shape_in old)) → Fails → OnErr result KeepsMaking → Causes Said.refresh
  refresh_caused spent fails stays = record {
    spent = given_so (MayNotFlush (shape_in old)) Spent result Spent spent refl;
    device = given_so (can_fail (device_in old)) Device result Device fails.device refl;
    counted = given_so Counted Device result Device fails.counted refl;
    damaged = λ k. tt;
    reached = λ k. tt;
    quiet = given_so Quiet Memory result Memory fails.memory refl;
    told = tt;
    swept = tt;
    rises = fails.rises;
    stays = tt;
    keeps = kept_so KeepsMaking (Keeps Said.refresh) (λ a. tt) (λ e kept. kept) result stays;
    making = λ e k other. (kept_making KeepsMaking result (Some Said.refresh) stays e k other).merging;
    still = λ e k other. absurd (true≢false other);
  }

  pub get_caused : (t : ℕ) (id : Text)
      → IfErr result (λ e. e ≡ Damaged → (view : View) → IsRecordedAs (shape_in old).views t view → (files : ℕ → List ℕ)
      → TellsSource (bytes (device_in old)) files view id → HoldsSource files view id → ⊥)
      → IfErr result (λ e. e ≡ Memory → (view : View) → IsRecordedAs (shape_in old).views t view → MayReachSource (bytes (device_in old)) view id)
      → Fails → shape_in left ≡ shape_in old → Causes (Said.get t id)
  get_caused t id damaged reach fails same = record {
    spent = λ k. tt;
    device = given_so (can_fail (device_in old)) Device result Device fails.device refl;
    counted = given_so Counted Device result Device fails.counted refl;
    damaged = given_so (IsDamagedTo (bytes (device_in old)) (shape_in old) (Some (Said.get t id))) Damaged result Damaged damaged refl;
    reached = given_so (MayReachTo (bytes (device_in old)) (shape_in old) (Some (Said.get t id))) Memory result Memory reach refl;
    quiet = given_so Quiet Memory result Memory fails.memory refl;
    told = tt;
    swept = tt;
    rises = fails.rises;
    stays = tt;
    keeps = tt;
    making = λ e k other. ap (λ (s : Shape). s.merging) same;
    still = λ e k other. same;
  }

  -- an OPEN, of which the run says what it is told
  pub open_caused : (token : Option ℕ) → Quiet → Rises → OnErr result (left ≡ old) → Causes (said_open token)
  open_caused None quiet rises same = record { spent = λ k. tt; device = λ k. tt; counted = λ k. tt; damaged = λ k. tt; reached = λ k. tt; quiet = λ k. quiet; told = tt; swept = tt; rises = rises; stays = tt; keeps = tt; making = unchanged_making old left result _ same; still = unchanged_still old left result same }
  open_caused (Some t) quiet rises same = record { spent = λ k. tt; device = λ k. tt; counted = λ k. tt; damaged = λ k. tt; reached = λ k. tt; quiet = λ k. quiet; told = tt; swept = tt; rises = rises; stays = tt; keeps = tt; making = unchanged_making old left result _ same; still = unchanged_still old left result same }

  -- ---- COMMIT

  -- the text has the form of one where another refusal is given
  right_text : (A : Type 0) (text : Text) (e : Refusal) → Large ≢ e → WrongKind ≢ e → IfErr (commit_text_of text) (λ e. (result ≡ Err e) × A)
      → reply_of result ≡ Err e → commit_text_of text ≡ Ok text
  right_text A text e large kind wrong is = by (ltb commit_text_limit (length text)) (list_all is_plain_byte text) refl refl wrong
    where
      another : (x : Refusal) → x ≢ e → ◌≡◌ {A = Reply} (Err x) (Err e) → ⊥
      another x differs k = differs cc

      by : (long plain : Bool) → ltb commit_text_limit (length text) ≡ long → list_all is_plain_byte text ≡ plain
          → IfErr (cond long (Err Large) (cond plain (Ok text) (Err WrongKind))) (λ e. (result ≡ Err e) × A) → commit_text_of text ≡ Ok text
      by true plain a b due = absurd (not_told result Large (Err e) (another Large large) due.0 is)
      by false false a b due = absurd (not_told result WrongKind (Err e) (another WrongKind kind) due.0 is)
      by false true a b due =
          ap (λ long. cond long (Err Large) (cond (list_all is_plain_byte text) (Ok text) (Err WrongKind))) a
          ∙ ap (λ plain. cond plain (Ok text) (Err WrongKind)) b

  -- what is told of a generation
  commit_told : (may : D → FileName → FileContent → Type 0) (text : Text) (reply : Reply) (new : LedgerOnDevice D) → GoesBy bytes may (Some (Said.commit text)) reply old new
      → TellsSo (policy_in old) (shape_in old) f f' (Some (Said.commit text)) reply
  commit_told may text (Ok (Answer.number g)) new goes = (goes.asked g refl).0
  commit_told may text (Ok (Answer.found f)) new goes = tt
  commit_told may text (Ok (Answer.names ns)) new goes = tt
  commit_told may text (Ok (Answer.commit_text t)) new goes = tt
  commit_told may text (Ok (Answer.news n)) new goes = tt
  commit_told may text (Err e) new goes = tt

  -- what is so of a refused text beside its refusal
  if_wrong : (A : Type 0) (judged : Result Text Refusal) → IfErr judged (λ e. (result ≡ Err e) × A) → IfErr judged (λ e. A)
  if_wrong A (Ok t) wrong = tt
  if_wrong A (Err e) wrong = wrong.1

  pub commit_caused : (may : D → FileName → FileContent → Type 0) (text : Text)
      → IfErr (commit_text_of text) (λ e. (result ≡ Err e) × (left ≡ old))
      → (commit_text_of text ≡ Ok text → IfErr result (λ e. e ≡ Spent → (last_number < (shape_in old).next_generation) ⊎ MayNotFlush (shape_in old)))
      → Fails → GoesBy bytes may (Some (Said.commit text)) (reply_of result) old left → OnErr result KeepsMaking → Causes (Said.commit text)
  commit_caused may text wrong spent fails goes stays = record {
    spent = λ k.
        given_so ((last_number < (shape_in old).next_generation) ⊎ MayNotFlush (shape_in old)) Spent result Spent
        (spent (right_text (left ≡ old) text Spent (λ e. cc e) (λ e. cc e) wrong k)) refl k;
    device = given_so (can_fail (device_in old)) Device result Device fails.device refl;
    counted = given_so Counted Device result Device fails.counted refl;
    damaged = λ k. tt;
    reached = λ k. tt;
    quiet = given_so Quiet Memory result Memory fails.memory refl;
    told = commit_told may text (reply_of result) left goes;
    swept = tt;
    rises = fails.rises;
    stays = if_wrong (left ≡ old) (commit_text_of text) wrong;
    keeps = kept_so KeepsMaking (Keeps (Said.commit text)) (λ a. tt) (λ e kept. kept) result stays;
    making = λ e k other. (kept_making KeepsMaking result (Some (Said.commit text)) stays e k other).merging;
    still = λ e k other. absurd (true≢false other);
  }

  -- ---- maintenance

  -- what a step of warming did, as it is answered
  warm_told : (r : Result code.Answer Refusal) → IfOk r (λ a. IsWarmTold (shape_in old) f f' (answer_of a))
      → TellsSo (policy_in old) (shape_in old) f f' (Some (Said.chore Chore.warm)) (reply_of r)
  warm_told (Ok a) told = told
  warm_told (Err e) told = tt

  pub warm_caused : IfOk result (λ a. IsWarmTold (shape_in old) f f' (answer_of a)) → Quiet → Rises → shape_in left ≡ shape_in old → Causes (Said.chore Chore.warm)
  warm_caused told quiet rises same = record {
    spent = λ k. tt;
    device = λ k. tt;
    counted = λ k. tt;
    damaged = λ k. tt;
    reached = λ k. tt;
    quiet = λ k. quiet;
    told = warm_told result told;
    swept = tt;
    rises = rises;
    stays = tt;
    keeps = tt;
    making = λ e k other. ap (λ (s : Shape). s.merging) same;
    still = λ e k other. same;
  }

  -- session 0 alone is told anything but that the line has no form
  zero : {A : Type 0} (session : ℕ) (reply : Reply) → (Err NoForm ≢ reply) → (session ≢ 0 → (result ≡ Err NoForm) × A) → reply_of result ≡ reply → session ≡ 0
  zero session reply differs foreign is = elim (eqb_tells session 0) [
    | inl k ↦ k.1
    | inr k ↦ absurd (not_told result NoForm reply differs (foreign k.1).0 is)
  ]

  module _ (session : ℕ) (carried : IsCarried (bytes (device_in old)) (shape_in old)) where
    -- what answers session 0 answers the command
    of_zero : (what : Chore) (reply : Reply) → session ≡ 0 → AnswersSaid bytes session (Said.chore what) old reply left
        → lines.AnswersCarried (policy_in old) (bytes (device_in old)) (shape_in old) (line_of 0 (Command.chore what)) reply (bytes (device_in left)) (shape_in left)
    of_zero what reply is answers =
        subst (λ c. lines.AnswersCarried (policy_in old) (bytes (device_in old)) (shape_in old) (line_of 0 c) reply (bytes (device_in left)) (shape_in left)) answers.1
        (subst (λ n. lines.AnswersCarried (policy_in old) (bytes (device_in old)) (shape_in old) (line_of n answers.0) reply (bytes (device_in left)) (shape_in left)) is answers.2)

    merge_told : (a : Answer) → session ≡ 0 → AnswersSaid bytes session (Said.chore Chore.merge) old (Ok a) left
        → TellsSo (policy_in old) (shape_in old) f f' (Some (Said.chore Chore.merge)) (Ok a)
    merge_told (Answer.news n) is answers =
        (merges_tell (policy_in old) (bytes (device_in old)) (bytes (device_in left)) (shape_in old) (shape_in left) n carried.0 carried.1 carried.2).0
        (of_zero Chore.merge (Ok (Answer.news n)) is answers)
    merge_told (Answer.number n) is answers = tt
    merge_told (Answer.found f) is answers = tt
    merge_told (Answer.names ns) is answers = tt
    merge_told (Answer.commit_text t) is answers = tt

    force_told : (a : Answer) → session ≡ 0 → AnswersSaid bytes session (Said.chore Chore.force) old (Ok a) left
        → TellsSo (policy_in old) (shape_in old) f f' (Some (Said.chore Chore.force)) (Ok a)
    force_told (Answer.news n) is answers =
        (merges_tell (policy_in old) (bytes (device_in old)) (bytes (device_in left)) (shape_in old) (shape_in left) n carried.0 carried.1 carried.2).1
        (of_zero Chore.force (Ok (Answer.news n)) is answers)
    force_told (Answer.number n) is answers = tt
    force_told (Answer.found f) is answers = tt
    force_told (Answer.names ns) is answers = tt
    force_told (Answer.commit_text t) is answers = tt

    -- what is told, as it is answered
    maintain_told : (chore : code_chore.Chore) (r : Result code.Answer Refusal) → (session ≢ 0 → r ≡ Err NoForm)
        → AnswersSaid bytes session (Said.chore (chore_of chore)) old (reply_of r) left → IfOk r (λ a. TellsChore (length f.cached) (shape_in old) chore (answer_of a))
        → TellsSo (policy_in old) (shape_in old) f f' (Some (Said.chore (chore_of chore))) (reply_of r)
    maintain_told Merge (Ok a) foreign answers told = merge_told (answer_of a) (zero_answered a foreign) answers
      where
        zero_answered : (a : code.Answer) → (session ≢ 0 → ◌≡◌ {A = Result code.Answer Refusal} (Ok a) (Err NoForm)) → session ≡ 0
        zero_answered a foreign = elim (eqb_tells session 0) [
          | inl k ↦ k.1
          | inr k ↦ absurd (let no : ◌≡◌ {A = Result code.Answer Refusal} (Ok a) (Err NoForm) = foreign k.1 in cc)
        ]
    maintain_told Force (Ok a) foreign answers told = force_told (answer_of a) (zero_answered a foreign) answers
      where
        zero_answered : (a : code.Answer) → (session ≢ 0 → ◌≡◌ {A = Result code.Answer Refusal} (Ok a) (Err NoForm)) → session ≡ 0
        zero_answered a foreign = elim (eqb_tells session 0) [
          | inl k ↦ k.1
          | inr k ↦ absurd (let no : ◌≡◌ {A = Result code.Answer Refusal} (Ok a) (Err NoForm) = foreign k.1 in cc)
        ]
    maintain_told Sweep (Ok a) foreign answers told =
        subst (λ x. TellsSo (policy_in old) (shape_in old) f f' (Some (Said.chore Chore.sweep)) (Ok x)) (sym told) refl
    maintain_told Stat (Ok a) foreign answers told =
        subst (λ x. TellsSo (policy_in old) (shape_in old) f f' (Some (Said.chore Chore.stat)) (Ok x)) (sym told) refl
    maintain_told Merge (Err e) foreign answers told = tt
    maintain_told Force (Err e) foreign answers told = tt
    maintain_told Sweep (Err e) foreign answers told = tt
    maintain_told Stat (Err e) foreign answers told = tt

    -- what is swept, as it is answered
    sweep_told : (r : Result code.Answer Refusal) → IfOk r (λ a. IsSwept bytes old left) → SweepsSo bytes old left (Some (Said.chore Chore.sweep)) (reply_of r)
    sweep_told (Ok a) swept = swept
    sweep_told (Err e) swept = tt

    -- when it is refused
    module _ {A : Type 0} (foreign : session ≢ 0 → (result ≡ Err NoForm) × A) where
      apart : (e : Refusal) → NoForm ≢ e → ◌≡◌ {A = Reply} (Err NoForm) (Err e) → ⊥
      apart e differs h = differs cc

      merge_may : (session ≡ 0 → IfErr result (MayRefuseMerge (policy_in old) (shape_in old))) → (e : Refusal) → NoForm ≢ e → reply_of result ≡ Err e
          → MayRefuseMerge (policy_in old) (shape_in old) e
      merge_may may e differs k =
          refused_so (MayRefuseMerge (policy_in old) (shape_in old)) result e (may (zero session (Err e) (apart e differs) foreign k)) k

      force_may : (session ≡ 0 → IfErr result (MayRefuseForce (shape_in old))) → (e : Refusal) → NoForm ≢ e → reply_of result ≡ Err e
          → MayRefuseForce (shape_in old) e
      force_may may e differs k = refused_so (MayRefuseForce (shape_in old)) result e (may (zero session (Err e) (apart e differs) foreign k)) k

      -- what a MERGE lacks, where it is told of damage
      abbrev Lacks : Type 0
      Lacks = LacksToCopy (bytes (device_in old)) (shape_in old).merging × LacksInput (bytes (device_in old)) (shape_in old).merging

      refuses : (chore : code_chore.Chore) → (session ≡ 0 → IfErr result (MayRefuse (policy_in old) (shape_in old) chore))
          → (chore ≡ Merge → IfErr result (λ e. e ≡ Damaged → Lacks))
          → IfErr result (λ e. e ≡ Memory → ReachesFor chore (bytes (device_in old)) (shape_in old).merging)
          → Fails → TellsSo (policy_in old) (shape_in old) f f' (Some (Said.chore (chore_of chore))) (reply_of result)
          → (chore ≡ Sweep → IsCarried (bytes (device_in old)) (shape_in old) → IfOk result (λ a. IsSwept bytes old left))
          → OnErr result (KeepsBehind chore (shape_in old) (shape_in left)) → Causes (Said.chore (chore_of chore))
      refuses Merge may lacks reach fails told swept keeps = record {
        spent = λ k. (merge_may may Spent (λ e. cc e) k).spent refl;
        device = given_so (can_fail (device_in old)) Device result Device fails.device refl;
        counted = given_so Counted Device result Device fails.counted refl;
        damaged = λ k. let lacking = given_so Lacks Damaged result Damaged (lacks refl) refl k in ((merge_may may Damaged (λ e. cc e) k).damaged refl, lacking.0, lacking.1);
        reached = given_so (MayCopy (bytes (device_in old)) (shape_in old).merging) Memory result Memory reach refl;
        quiet = given_so Quiet Memory result Memory fails.memory refl;
        told = told;
        swept = tt;
        rises = fails.rises;
        stays = tt;
        keeps = kept_so (KeepsBehind Merge (shape_in old) (shape_in left)) (Keeps (Said.chore Chore.merge)) (λ a. tt) (λ e kept. kept) result keeps;
        making = λ e k other. absurd (other refl);
        still = λ e k other. absurd (true≢false other);
      }
      refuses Force may lacks reach fails told swept keeps = record {
        spent = λ k. let m = force_may may Spent (λ e. cc e) k in (m.due, m.spent refl);
        device = given_so (can_fail (device_in old)) Device result Device fails.device refl;
        counted = given_so Counted Device result Device fails.counted refl;
        damaged = λ k. tt;
        reached = λ k. tt;
        quiet = given_so Quiet Memory result Memory fails.memory refl;
        told = told;
        swept = tt;
        rises = fails.rises;
        stays = tt;
        keeps = kept_so (KeepsBehind Force (shape_in old) (shape_in left)) (Keeps (Said.chore Chore.force)) (λ a. tt) (λ e kept. kept) result keeps;
        making = λ e k other. (kept_making (KeepsBehind Force (shape_in old) (shape_in left)) result (Some (Said.chore Chore.force)) keeps e k other).0.merging;
        still = λ e k other. absurd (true≢false other);
      }
      refuses Sweep may lacks reach fails told swept keeps = record {
        spent = λ k. tt;
        device = given_so (can_fail (device_in old)) Device result Device fails.device refl;
        counted = given_so Counted Device result Device fails.counted refl;
        damaged = λ k. tt;
        reached = λ k. tt;
        quiet = given_so Quiet Memory result Memory fails.memory refl;
        told = told;
        swept = sweep_told result (swept refl carried);
        rises = fails.rises;
        stays = tt;
        keeps = tt;
        making = kept_making (KeepsBehind Sweep (shape_in old) (shape_in left)) result _ keeps;
        still = λ e k other. absurd (true≢false other);
      }
      refuses Stat may lacks reach fails told swept keeps = record {
        spent = λ k. tt;
        device = λ k. tt;
        counted = λ k. tt;
        damaged = λ k. tt;
        reached = λ k. tt;
        quiet = given_so Quiet Memory result Memory fails.memory refl;
        told = told;
        swept = tt;
        rises = fails.rises;
        stays = tt;
        keeps = tt;
        making = λ e k other. ap (λ (s : Shape). s.merging) (kept_making (KeepsBehind Stat (shape_in old) (shape_in left)) result (Some (Said.chore Chore.stat)) keeps e k other);
        still = kept_still (KeepsBehind Stat (shape_in old) (shape_in left)) result keeps;
      }

      pub chore_caused : (chore : code_chore.Chore) → AnswersSaid bytes session (Said.chore (chore_of chore)) old (reply_of result) left
          → IfOk result (λ a. TellsChore (length f.cached) (shape_in old) chore (answer_of a)) → (session ≡ 0 → IfErr result (MayRefuse (policy_in old) (shape_in old) chore))
          → (chore ≡ Merge → IfErr result (λ e. e ≡ Damaged → Lacks)) → IfErr result (λ e. e ≡ Memory → ReachesFor chore (bytes (device_in old)) (shape_in old).merging)
          → Fails → (chore ≡ Sweep → IsCarried (bytes (device_in old)) (shape_in old) → IfOk result (λ a. IsSwept bytes old left))
          → OnErr result (KeepsBehind chore (shape_in old) (shape_in left)) → Causes (Said.chore (chore_of chore))
      chore_caused chore answers told may lacks reach fails swept keeps =
          refuses chore may lacks reach fails (maintain_told chore result (λ k. (foreign k).0) answers told) swept keeps

-- ---- of commands

-- the command that is said may be told of a failure where what is said may be
pub failing_by : {D : Type 0} (can_fail : D → Type 0) (device : D) (s : Shape) (schema : Schema) (said : Option Said) (c : Command)
    → IsCommandOf schema said c → MayFailTo can_fail device s said → MayFailBy (can_fail device) c
failing_by can_fail device s schema None c is m = subst (MayFailBy (can_fail device)) (sym is) tt
failing_by can_fail device s schema (Some (Said.put text)) c is m = subst (MayFailBy (can_fail device)) (sym is) m
failing_by can_fail device s schema (Some (Said.delete text)) c is m = subst (MayFailBy (can_fail device)) (sym is) tt
failing_by can_fail device s schema (Some (Said.delete_where text)) c is m = subst (MayFailBy (can_fail device)) (sym is.2) tt
failing_by can_fail device s schema (Some Said.refresh) c is m = subst (MayFailBy (can_fail device)) (sym is) m
failing_by can_fail device s schema (Some Said.open_newest) c is m = subst (MayFailBy (can_fail device)) (sym is) tt
failing_by can_fail device s schema (Some (Said.open_at t)) c is m = subst (MayFailBy (can_fail device)) (sym is) tt
failing_by can_fail device s schema (Some (Said.close t)) c is m = subst (MayFailBy (can_fail device)) (sym is) tt
failing_by can_fail device s schema (Some (Said.find t n sort mark text)) c is m = subst (MayFailBy (can_fail device)) (sym is.2) tt
failing_by can_fail device s schema (Some (Said.facets t dim n text)) c is m = subst (MayFailBy (can_fail device)) (sym is.2) tt
failing_by can_fail device s schema (Some (Said.get t text)) c is m = subst (MayFailBy (can_fail device)) (sym is) m
failing_by can_fail device s schema (Some (Said.files_of_token t)) c is m = subst (MayFailBy (can_fail device)) (sym is) tt
failing_by can_fail device s schema (Some (Said.files_of_commit g)) c is m = subst (MayFailBy (can_fail device)) (sym is) tt
failing_by can_fail device s schema (Some (Said.commit text)) c is m = subst (MayFailBy (can_fail device)) (sym is) m
failing_by can_fail device s schema (Some (Said.text_of_commit g)) c is m = subst (MayFailBy (can_fail device)) (sym is) tt
failing_by can_fail device s schema (Some Said.snapshot) c is m = subst (MayFailBy (can_fail device)) (sym is) tt
failing_by can_fail device s schema (Some (Said.release_snapshot g)) c is m = subst (MayFailBy (can_fail device)) (sym is) tt
failing_by can_fail device s schema (Some (Said.prune n)) c is m = subst (MayFailBy (can_fail device)) (sym is) tt
failing_by can_fail device s schema (Some (Said.chore Chore.merge)) c is m = subst (MayFailBy (can_fail device)) (sym is) m
failing_by can_fail device s schema (Some (Said.chore Chore.force)) c is m = subst (MayFailBy (can_fail device)) (sym is) m
failing_by can_fail device s schema (Some (Said.chore Chore.sweep)) c is m = subst (MayFailBy (can_fail device)) (sym is) m
failing_by can_fail device s schema (Some (Said.chore Chore.warm)) c is m = subst (MayFailBy (can_fail device)) (sym is) tt
failing_by can_fail device s schema (Some (Said.chore Chore.stat)) c is m = subst (MayFailBy (can_fail device)) (sym is) tt

-- Where the run lets the command be told that the device failed, the one can fail where the other does.
pub failing_on : (A B : Type 0) → (A → B) → (c : Command) → IsTrue (may_refuse c Device) → MayFailBy A c → B
failing_on A B f Command.formless may m = absurd (cc may)
failing_on A B f (Command.put item) may m = f m
failing_on A B f (Command.delete id) may m = absurd (cc may)
failing_on A B f (Command.delete_where q) may m = absurd (cc may)
failing_on A B f Command.refresh may m = f m
failing_on A B f Command.open_newest may m = absurd (cc may)
failing_on A B f (Command.open_at t) may m = absurd (cc may)
failing_on A B f (Command.close t) may m = absurd (cc may)
failing_on A B f (Command.read t (Read.find n sort mark q)) may m = absurd (cc may)
failing_on A B f (Command.read t (Read.facets dim n q)) may m = absurd (cc may)
failing_on A B f (Command.read t (Read.get id)) may m = f m
failing_on A B f (Command.prune n) may m = absurd (cc may)
failing_on A B f (Command.commit text) may m = f m
failing_on A B f Command.snapshot may m = absurd (cc may)
failing_on A B f (Command.release_snapshot g) may m = absurd (cc may)
failing_on A B f (Command.files_of_token t) may m = absurd (cc may)
failing_on A B f (Command.files_of_commit g) may m = absurd (cc may)
failing_on A B f (Command.text_of_commit g) may m = absurd (cc may)
failing_on A B f (Command.chore Chore.merge) may m = f m
failing_on A B f (Command.chore Chore.force) may m = f m
failing_on A B f (Command.chore Chore.warm) may m = absurd (cc may)
failing_on A B f (Command.chore Chore.sweep) may m = f m
failing_on A B f (Command.chore Chore.stat) may m = absurd (cc may)
