-- What is answered to a command, from what the ledger's call says.
use Rattle.std.proofs.Common.{◌≡◌, ℕ, ◌<◌, ◌≤◌, [], refl, sym, ◌∙◌, subst, inl, inr}
use Rattle.std.specs.Prelude.{◌≢◌, ◌⊎◌, None, Result, Ok, Err}
use Rattle.std.proofs.lemmas.Bool.{cases_lt}
use Rattle.cat_base.specs.declared.refusal.Refusal.{Refusal}
use Rattle.cat_base.specs.declared.refusal.Refusal.TheVariants.{Damaged, Device, Kind, Memory, NoCommit, Query as NoQuery, Spent}
use Rattle.cat_model.specs.Faults.{Fault}
use Rattle.cat_model.specs.Heard.{IsCommand, IsQueryOf}
use Rattle.cat_model.specs.Item.{Item}
use Rattle.cat_model.specs.Limits.{last_number}
use Rattle.cat_model.specs.Lines.{Said}
use Rattle.cat_model.specs.Query.{Query}
use Rattle.cat_model.specs.Run.{Chore, Command, Reply}
use Rattle.cat_model.specs.Text.{Text}
use Rattle.cat_model.specs.Write.{Write}
use Rattle.cat_items.specs.Reading.{json}
use Rattle.cat_ledger_laws.specs.model.Calls.{MayLeave}
use Rattle.cat_ledger_laws.specs.model.Plans.{MergePolicy}
use Rattle.cat_ledger_laws.specs.model.Replies.{IsLeft}
use Rattle.cat_ledger_laws.specs.shape.Shapes.{Shape}
use Rattle.cat_ledger_laws.specs.shape.Ties.{Makes, ToldFiles}
use Rattle.cat_ledger_laws.specs.lines.LineLaws.{NothingChanges, line_of}
use Rattle.cat_ledger_laws.specs.lines.ReadLaws.{kept_under}
use Rattle.cat_ledger_laws.specs.lines.RunLaws.{AnswersCarried}
use Rattle.cat_ledger_laws.proofs.lines.LineAnswers.{memory_answers, stopped_puts_answer}
use Rattle.cat_ledger_laws.proofs.lines.ReadAnswers.{unkept_files_answer}
use Rattle.cat_ledger_laws.proofs.lines.RefusalAnswers.{faults_answer, spent_writes_answer}
use Rattle.cat_ledger_laws.proofs.lines.StopAnswers.{begun_are_left, nothing_is_left, stopped_chores_answer}
use Rattle.cat_ledger.proofs.Answered.{memory_refused, named}

-- whether it is want of memory
is_memory : (e : Refusal) → (e ≡ Memory) ⊎ (e ≢ Memory)
is_memory Memory = inl refl
is_memory _ = inr (λ h. cc h)

-- another refusal is no want of memory
pub not_memory : {e : Refusal} (other : Refusal) → other ≢ Memory → e ≡ other → e ≢ Memory
not_memory other differs is memory = differs (sym is ∙ memory)

pub failure_differs : Device ≢ Memory
failure_differs = λ h. cc h

pub limit_differs : Spent ≢ Memory
limit_differs = λ h. cc h

-- the refusal of an error is its own
pub err_is : {A : Type 0} {a b : Refusal} → ◌≡◌ {A = Result A Refusal} (Err a) (Err b) → a ≡ b
err_is e = cc

module _ (policy : MergePolicy) (told told' : ToldFiles) (s new : Shape) (session : ℕ) where
  -- the command is answered by the refusal
  abbrev Refuses : Command → Refusal → Type 0
  Refuses c e = AnswersCarried policy told s (line_of session c) (Err e) told' new

  -- ---- writes

  -- a PUT whose text has a fault, or wants memory to be read
  pub put_unread : (r : Result Item Refusal) (e : Refusal) → (e ≢ Memory → r ≡ Err e) → NothingChanges told s told' new → Refuses (Command.put r) e
  put_unread r e wrong still = elim (is_memory e) [
    | inl memory ↦ named policy told told' s new session (Command.put r) e Memory memory
        (memory_answers policy told told' s new (line_of session (Command.put r)) refl (nothing_is_left told told' s new still))
    | inr other ↦ subst (λ r. Refuses (Command.put r) e) (sym (wrong other))
        (faults_answer policy told told' s new session (Command.put (Err e)) e refl still)
  ]

  -- a PUT of an item that the ledger refuses
  pub put_refused : (i : Item) (e : Refusal) → (e ≡ Kind → ⊥) → (last_number ≤ s.count → (e ≡ Spent) × NothingChanges told s told' new)
      → Makes IsLeft told s told' new → (e ≡ Kind) ⊎ (e ≡ Memory) ⊎ (e ≡ Device) ⊎ (e ≡ Spent) → Refuses (Command.put (Ok i)) e
  put_refused i e right full left why = elim (cases_lt s.count last_number) [
    | inl below ↦ by below why
    | inr above ↦ named policy told told' s new session (Command.put (Ok i)) e Spent (full above).0
        (spent_writes_answer policy told told' s new session (Write.put i) above (full above).1)
  ]
    where
      by : s.count < last_number → (e ≡ Kind) ⊎ (e ≡ Memory) ⊎ (e ≡ Device) ⊎ (e ≡ Spent) → Refuses (Command.put (Ok i)) e
      by below (inl kind) = absurd (right kind)
      by below (inr (inl is)) = named policy told told' s new session (Command.put (Ok i)) e Memory is
          (memory_answers policy told told' s new (line_of session (Command.put (Ok i))) refl left)
      by below (inr (inr (inl is))) = named policy told told' s new session (Command.put (Ok i)) e Device is
          (stopped_puts_answer policy told told' s new session i Device below refl left)
      by below (inr (inr (inr is))) = named policy told told' s new session (Command.put (Ok i)) e Spent is
          (stopped_puts_answer policy told told' s new session i Spent below refl left)

  -- a delete that the ledger refuses
  pub delete_refused : (id : Text) (e : Refusal) → (e ≡ Spent → last_number ≤ s.count) → NothingChanges told s told' new
      → (e ≡ Memory) ⊎ (e ≡ Spent) → Refuses (Command.delete (Ok id)) e
  delete_refused id e full still (inl is) = named policy told told' s new session (Command.delete (Ok id)) e Memory is
      (memory_answers policy told told' s new (line_of session (Command.delete (Ok id))) refl (nothing_is_left told told' s new still))
  delete_refused id e full still (inr is) = named policy told told' s new session (Command.delete (Ok id)) e Spent is
      (spent_writes_answer policy told told' s new session (Write.delete id) (full is) still)

  -- the same by a query
  pub query_delete_refused : (q : Query) (e : Refusal) → (e ≡ Spent → last_number ≤ s.count) → NothingChanges told s told' new
      → (e ≡ Memory) ⊎ (e ≡ Spent) → Refuses (Command.delete_where (Ok q)) e
  query_delete_refused q e full still (inl is) = named policy told told' s new session (Command.delete_where (Ok q)) e Memory is
      (memory_answers policy told told' s new (line_of session (Command.delete_where (Ok q))) refl (nothing_is_left told told' s new still))
  query_delete_refused q e full still (inr is) = named policy told told' s new session (Command.delete_where (Ok q)) e Spent is
      (spent_writes_answer policy told told' s new session (Write.delete_where q) (full is) still)

  -- a text that is no query, or wants memory to be read
  pub query_unread : (text : Text) (e : Refusal) → (e ≢ Memory → (place : ℕ) × (e ≡ NoQuery place) × Fault s.schema text place)
      → ((q : Result Query Refusal) × IsQueryOf s.schema text q) → NothingChanges told s told' new
      → (c : Command) × IsCommand json s.schema (Said.delete_where text) c × Refuses c e
  query_unread text e wrong judged still = elim (is_memory e) [
    | inl memory ↦ (
      Command.delete_where judged.0,
      (judged.0, judged.1, refl),
      named policy told told' s new session (Command.delete_where judged.0) e Memory memory
          (memory_answers policy told told' s new (line_of session (Command.delete_where judged.0)) refl (nothing_is_left told told' s new still)),
    )
    | inr other ↦
        let fault = wrong other in
        let q : Result Query Refusal = Err (NoQuery fault.0) in (
          Command.delete_where q,
          (q, IsQueryOf.faulty fault.0 fault.2, refl),
          named policy told told' s new session (Command.delete_where q) e (NoQuery fault.0) fault.1
              (faults_answer policy told told' s new session (Command.delete_where q) (NoQuery fault.0) refl still),
        )
  ]

  -- ---- what a commit tells

  -- a FILES of a commit that the ledger refuses
  pub files_refused : (g : ℕ) (e : Refusal) → (e ≡ NoCommit → kept_under s.commits g ≡ None) → NothingChanges told s told' new
      → (e ≡ NoCommit) ⊎ (e ≡ Memory) → Refuses (Command.files_of_commit g) e
  files_refused g e none still (inl is) = named policy told told' s new session (Command.files_of_commit g) e NoCommit is
      (unkept_files_answer policy told told' s new session g (none is) still)
  files_refused g e none still (inr is) = named policy told told' s new session (Command.files_of_commit g) e Memory is (memory_refused policy told told' s new session (Command.files_of_commit g) refl still)

-- ---- maintenance

-- what answers a line of session 0 answers that of a session that is 0
pub at_zero : (policy : MergePolicy) (told told' : ToldFiles) (s new : Shape) (session : ℕ) (c : Command) (r : Reply) → session ≡ 0
    → AnswersCarried policy told s (line_of 0 c) r told' new → AnswersCarried policy told s (line_of session c) r told' new
at_zero policy told told' s new session c r zero answered = subst (λ n. AnswersCarried policy told s (line_of n c) r told' new) (sym zero) answered

-- a SWEEP that the ledger refuses
pub sweep_refused : (policy : MergePolicy) (told told' : ToldFiles) (s new : Shape) (e : Refusal) → Makes (MayLeave []) told s told' new
    → (e ≡ Memory) ⊎ (e ≡ Device) → AnswersCarried policy told s (line_of 0 (Command.chore Chore.sweep)) (Err e) told' new
sweep_refused policy told told' s new e left (inl is) = named policy told told' s new 0 (Command.chore Chore.sweep) e Memory is
    (memory_answers policy told told' s new (line_of 0 (Command.chore Chore.sweep)) refl (begun_are_left [] told told' s new left))
sweep_refused policy told told' s new e left (inr is) = named policy told told' s new 0 (Command.chore Chore.sweep) e Device is
    (stopped_chores_answer policy told told' s new Chore.sweep Device refl (begun_are_left [] told told' s new left))

-- a FORCE that the ledger refuses
pub force_refused : (policy : MergePolicy) (told told' : ToldFiles) (s new : Shape) (e : Refusal) → Makes IsLeft told s told' new
    → (e ≡ Memory) ⊎ (e ≡ Device) ⊎ (e ≡ Spent) → AnswersCarried policy told s (line_of 0 (Command.chore Chore.force)) (Err e) told' new
force_refused policy told told' s new e left (inl is) = named policy told told' s new 0 (Command.chore Chore.force) e Memory is
    (memory_answers policy told told' s new (line_of 0 (Command.chore Chore.force)) refl left)
force_refused policy told told' s new e left (inr (inl is)) = named policy told told' s new 0 (Command.chore Chore.force) e Device is
    (stopped_chores_answer policy told told' s new Chore.force Device refl left)
force_refused policy told told' s new e left (inr (inr is)) = named policy told told' s new 0 (Command.chore Chore.force) e Spent is
    (stopped_chores_answer policy told told' s new Chore.force Spent refl left)

-- a MERGE that the ledger refuses
pub merge_refused : (policy : MergePolicy) (told told' : ToldFiles) (s new : Shape) (e : Refusal) → Makes IsLeft told s told' new
    → (e ≡ Memory) ⊎ (e ≡ Device) ⊎ (e ≡ Damaged) ⊎ (e ≡ Spent) → AnswersCarried policy told s (line_of 0 (Command.chore Chore.merge)) (Err e) told' new
merge_refused policy told told' s new e left (inl is) = named policy told told' s new 0 (Command.chore Chore.merge) e Memory is
    (memory_answers policy told told' s new (line_of 0 (Command.chore Chore.merge)) refl left)
merge_refused policy told told' s new e left (inr (inl is)) = named policy told told' s new 0 (Command.chore Chore.merge) e Device is
    (stopped_chores_answer policy told told' s new Chore.merge Device refl left)
merge_refused policy told told' s new e left (inr (inr (inl is))) = named policy told told' s new 0 (Command.chore Chore.merge) e Damaged is
    (stopped_chores_answer policy told told' s new Chore.merge Damaged refl left)
merge_refused policy told told' s new e left (inr (inr (inr is))) = named policy told told' s new 0 (Command.chore Chore.merge) e Spent is
    (stopped_chores_answer policy told told' s new Chore.merge Spent refl left)
