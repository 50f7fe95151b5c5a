-- What a line is answered that one call of the ledger does, from what the call makes.
use Rattle.std.proofs.Common.{◌≡◌, ℕ, ◌-◌, ◌<◌, ◌≤◌, true, cond, refl, sym, ◌∙◌, ap, subst, inl, inr, arith}
use Rattle.std.proofs.lemmas.Bool.Decides.{eqb_tells}
use Rattle.std.specs.Prelude.{◌==◌, ◌⊎◌, None, Some, Result, Ok, Err, IfErr, IfOk, IsTrue, OnErr, OnOk}
use Rattle.cat_base.specs.declared.refusal.Refusal.{Refusal}
use Rattle.cat_base.specs.declared.refusal.Refusal.TheVariants.{Device, Memory, NoCommit, NoSnapshot, Spent}
use Rattle.cat_model.specs.Heard.{commit_text_of}
use Rattle.cat_model.specs.Limits.{last_number, snapshot_limit}
use Rattle.cat_model.specs.Lines.{Said}
use Rattle.cat_model.specs.Run.{Command, is_looked_at}
use Rattle.cat_model.specs.State.{snapshots_in}
use Rattle.cat_model.specs.Text.{Text}
use Rattle.cat_directory.specs.Devices.{FileContent}
use Rattle.cat_directory.specs.declared.name.FileName.{FileName}
use Rattle.cat_ledger_laws.specs.lines.LineLaws.{Commits, MayRefresh, NothingChanges, line_of, tells}
use Rattle.cat_ledger_laws.specs.lines.RunLaws.{AnswersCarried}
use Rattle.cat_ledger_laws.specs.model.Calls.{Unsnapped}
use Rattle.cat_ledger_laws.specs.model.Plans.{MergePolicy}
use Rattle.cat_ledger_laws.specs.model.Replies.{IsLeft}
use Rattle.cat_ledger_laws.specs.shape.Shapes.{Shape}
use Rattle.cat_ledger_laws.specs.shape.Steps.{IsSnapped, newest_generation}
use Rattle.cat_ledger_laws.specs.shape.Ties.{Makes, ToldFiles, TouchesNothing}
use Rattle.cat_ledger_laws.proofs.shape.Committed.{snaps_make}
use Rattle.cat_ledger_laws.proofs.lines.LineAnswers.{commits_answer, memory_answers, snaps_answer, stopped_refreshes_answer, unsnaps_answer}
use Rattle.cat_ledger_laws.proofs.lines.RefusalAnswers.{commitless_snaps_answer, faults_answer, snapless_unsnaps_answer, spent_snaps_answer}
use Rattle.cat_ledger_laws.proofs.lines.StopAnswers.{nothing_is_left, stopped_commits_answer}
use Rattle.cat_ledger.specs.Answering.{number_reply}
use Rattle.cat_ledger.specs.Histories.{Event, Goes, GoesBy, GoesRefused}
use Rattle.cat_ledger.specs.Ledgers.{LedgerOnDevice}

own_number : (n : ℕ) → (n == n) ≡ true
own_number n = elim (eqb_tells n n) [ inl h ↦ h.0 | inr h ↦ absurd (h.1 refl) ]

module _ (policy : MergePolicy) (told told' : ToldFiles) (s new : Shape) (session : ℕ) where
  -- the command is answered by the refusal
  abbrev Refuses : Command → Refusal → Type 0
  Refuses c e = AnswersCarried policy told s (line_of session c) (Err e) told' new

  -- one that is known by name
  pub named : (c : Command) (e r : Refusal) → e ≡ r → Refuses c r → Refuses c e
  named c e r same answered = subst (Refuses c) (sym same) answered

  -- a number that is told, which equals the one that is due
  pub tells_same : (c : Command) (n due : ℕ) → n ≡ due → AnswersCarried policy told s (line_of session c) (tells due) told' new
      → AnswersCarried policy told s (line_of session c) (tells n) told' new
  tells_same c n due same answered = subst (λ n. AnswersCarried policy told s (line_of session c) (tells n) told' new) (sym same) answered

  -- a command that wants memory, and changes nothing
  pub memory_refused : (c : Command) → IsTrue (is_looked_at session c) → NothingChanges told s told' new → Refuses c Memory
  memory_refused c looked still = memory_answers policy told told' s new (line_of session c) looked (nothing_is_left told told' s new still)

  -- ---- views

  -- a REFRESH that is stopped on its way
  pub refresh_stopped : (e : Refusal) → MayRefresh s → Makes IsLeft told s told' new → (e ≡ Memory) ⊎ (e ≡ Device) ⊎ (e ≡ Spent) → Refuses Command.refresh e
  refresh_stopped e may left (inl is) = named Command.refresh e Memory is (memory_answers policy told told' s new (line_of session Command.refresh) refl left)
  refresh_stopped e may left (inr (inl is)) = named Command.refresh e Device is (stopped_refreshes_answer policy told told' s new session Device may refl left)
  refresh_stopped e may left (inr (inr is)) = named Command.refresh e Spent is (stopped_refreshes_answer policy told told' s new session Spent may refl left)

  -- ---- commits

  -- a COMMIT whose text may not be
  pub commit_unread : (text : Text) (e : Refusal) → commit_text_of text ≡ Err e → NothingChanges told s told' new → Refuses (Command.commit (commit_text_of text)) e
  commit_unread text e wrong still =
      subst (λ r. Refuses (Command.commit r) e) (sym wrong) (faults_answer policy told told' s new session (Command.commit (Err e)) e refl still)

  -- one that is stopped on its way
  commit_stopped : (text : Text) (e : Refusal) → s.next_generation ≤ last_number → Makes IsLeft told s told' new → (e ≡ Memory) ⊎ (e ≡ Device) ⊎ (e ≡ Spent)
      → Refuses (Command.commit (Ok text)) e
  commit_stopped text e some left (inl is) = named (Command.commit (Ok text)) e Memory is
      (memory_answers policy told told' s new (line_of session (Command.commit (Ok text))) refl left)
  commit_stopped text e some left (inr (inl is)) = named (Command.commit (Ok text)) e Device is
      (stopped_commits_answer policy told told' s new session text Device some refl left)
  commit_stopped text e some left (inr (inr is)) = named (Command.commit (Ok text)) e Spent is
      (stopped_commits_answer policy told told' s new session text Spent some refl left)

  -- one that was begun, whatever became of it
  pub commit_begun : (text : Text) (r : Result ℕ Refusal) → s.next_generation ≤ last_number → IfOk r (λ g. g ≡ s.next_generation)
      → OnOk r (Makes (Commits text) told s told' new) → OnErr r (Makes IsLeft told s told' new)
      → IfErr r (λ e. (e ≡ Memory) ⊎ (e ≡ Device) ⊎ (e ≡ Spent)) → AnswersCarried policy told s (line_of session (Command.commit (Ok text))) (number_reply r) told' new
  commit_begun text (Ok g) some number made left why = tells_same (Command.commit (Ok text)) g s.next_generation number
      (commits_answer policy told told' s new session text made)
  commit_begun text (Err e) some number made left why = commit_stopped text e some left why

  -- a SNAP that is refused
  pub snap_refused : (e : Refusal) → (e ≡ NoCommit → newest_generation s.commits ≡ None)
      → (e ≡ Spent → (g : ℕ) × (newest_generation s.commits ≡ Some g) × (snapshots_in s.taken g ≡ snapshot_limit))
      → NothingChanges told s told' new → (e ≡ NoCommit) ⊎ (e ≡ Spent) ⊎ (e ≡ Memory) → Refuses Command.snapshot e
  snap_refused e none spent still (inl is) = named Command.snapshot e NoCommit is
      (commitless_snaps_answer policy told told' s new session (none is) still)
  snap_refused e none spent still (inr (inl is)) = named Command.snapshot e Spent is
      (let at = spent is in spent_snaps_answer policy told told' s new session at.0 at.1 (omega (arith, at.2)) still)
  snap_refused e none spent still (inr (inr is)) = named Command.snapshot e Memory is (memory_refused Command.snapshot refl still)

  -- one that was begun, whatever became of it
  pub snap_begun : (r : Result ℕ Refusal) → TouchesNothing told told' → IfOk r (λ g. IsSnapped g s new) → IfOk r (λ g. snapshots_in s.taken g < snapshot_limit)
      → IfErr r (λ e. e ≡ NoCommit → newest_generation s.commits ≡ None)
      → IfErr r (λ e. e ≡ Spent → (g : ℕ) × (newest_generation s.commits ≡ Some g) × (snapshots_in s.taken g ≡ snapshot_limit))
      → IfErr r (λ e. (e ≡ NoCommit) ⊎ (e ≡ Spent) ⊎ (e ≡ Memory)) → OnErr r (new ≡ s)
      → AnswersCarried policy told s (line_of session Command.snapshot) (number_reply r) told' new
  snap_begun (Ok g) same snapped room none spent why err = snaps_answer policy told told' s new session g room (snaps_make g s new told told' snapped same)
  snap_begun (Err e) same snapped room none spent why err = snap_refused e none spent (err, same) why

  -- an UNSNAP, by what is left behind it
  pub unsnap_begun : (g left : ℕ) → 0 < snapshots_in s.taken g → left ≡ snapshots_in s.taken g - cond (g == g) 1 0 → Makes (Unsnapped g) told s told' new
      → AnswersCarried policy told s (line_of session (Command.release_snapshot g)) (tells left) told' new
  unsnap_begun g left some is made = tells_same (Command.release_snapshot g) left (snapshots_in s.taken g - 1)
      (is ∙ ap (λ b. snapshots_in s.taken g - cond b 1 0) (own_number g)) (unsnaps_answer policy told told' s new session g some made)

  -- one that is refused
  pub unsnap_refused : (g : ℕ) (e : Refusal) → (e ≡ NoSnapshot → snapshots_in s.taken g ≡ 0) → NothingChanges told s told' new
      → (e ≡ NoSnapshot) ⊎ (e ≡ Memory) → Refuses (Command.release_snapshot g) e
  unsnap_refused g e none still (inl is) = named (Command.release_snapshot g) e NoSnapshot is
      (snapless_unsnaps_answer policy told told' s new session g (none is) still)
  unsnap_refused g e none still (inr is) = named (Command.release_snapshot g) e Memory is (memory_refused (Command.release_snapshot g) refl still)

-- what a COMMIT makes of commits, by its answer
pub commit_goes_by : {D : Type 0} (bytes : D → ToldFiles) (left : D → FileName → FileContent → Type 0) (text : Text) (old new : LedgerOnDevice D) (r : Result ℕ Refusal)
    → IfOk r (λ g. Goes bytes left (Event.Answered g) old new) → OnErr r (GoesRefused bytes left text old new)
    → GoesBy bytes left (Some (Said.commit text)) (number_reply r) old new
commit_goes_by bytes left text old new (Ok g) answered refused = answered
commit_goes_by bytes left text old new (Err e) answered refused = refused
