-- What it tells of a line that memory was wanting, by the refusals that it was due otherwise.
use Rattle.std.proofs.Common.{◌≡◌, ◌≢◌, ℕ, ◌<◌, ◌≤◌, List, [], ◌∷◌, length, map, Bool, true, false, cond, ◌&&◌, not, ltb, refl, sym, ◌∙◌, ap, subst, inl, inr}
use Rattle.std.specs.Prelude.{◌⊎◌, ◌==◌, Option, None, Some, Result, Ok, Err, IfErr, IfSome, if◌then◌else◌, nat_lt}
use Rattle.std.specs.List.{list_all, list_any}
use Rattle.std.specs.Str.{is_utf8}
use Rattle.std.proofs.lemmas.Bool.Decides.{eqb_tells, leb_tells}
use Rattle.cat_base.specs.declared.refusal.Refusal.{Refusal}
use Rattle.cat_base.specs.declared.refusal.Refusal.TheVariants.{Device, Full, Id, Json, Kind as WrongKind, Large, Line as NoForm, Memory, NoCommit, NotHeld, Query as NoQuery, Spent}
use Rattle.cat_model.specs.Answer.{Found, Read, answer}
use Rattle.cat_model.specs.CommitFile.{CommitFile}
use Rattle.cat_model.specs.Faults.{Fault}
use Rattle.cat_model.specs.Forms.{is_plain_byte}
use Rattle.cat_model.specs.Grammar.{Spells}
use Rattle.cat_model.specs.Heard.{IsCommand, IsQueryOf, commit_text_of, id_of}
use Rattle.cat_model.specs.Item.{Record, Schema, is_id}
use Rattle.cat_model.specs.Limits.{commit_text_limit, last_number, snapshot_limit, source_limit}
use Rattle.cat_model.specs.Lines.{Said}
use Rattle.cat_model.specs.Page.{Sort}
use Rattle.cat_model.specs.Query.{Query}
use Rattle.cat_model.specs.Run.{Answer, Chore, Command, Reply, Run, greatest, holds, is_full, view_tokens}
use Rattle.cat_model.specs.State.{RecordedTable, has_hold, held_in, snapshots_in, table_recorded, tokens}
use Rattle.cat_model.specs.Table.{Opened, Start}
use Rattle.cat_model.specs.Text.{Text}
use Rattle.cat_model.specs.View.{View}
use Rattle.cat_items.specs.Reading.{json, source_fault, text_fault}
use Rattle.cat_commands.specs.cat_ledger_state.Cores.{MayNotFlush}
use Rattle.cat_ledger_laws.specs.lines.LineLaws.{MayRefresh}
use Rattle.cat_ledger_laws.specs.lines.ReadLaws.{kept_under}
use Rattle.cat_ledger_laws.specs.lines.RunLaws.{ReplyLike, Stands}
use Rattle.cat_ledger_laws.proofs.lines.HoldAnswers.{held_as}
use Rattle.cat_ledger_laws.specs.model.Ledger.{view_shown}
use Rattle.cat_ledger_laws.specs.shape.Shapes.{Shape, recorded_view}
use Rattle.cat_ledger_laws.specs.shape.Steps.{newest_generation, tokens_of}
use Rattle.cat_ledger_laws.specs.shape.Ties.{ToldFiles}
use Rattle.cat_ledger_laws.proofs.shape.Leaves.{map_twice}
use Rattle.cat_commands.specs.cat_protocol.replies.Reply.{answer_of, reply_of}
use Rattle.cat_commands.specs.cat_protocol.declared.replies.answer.Answer as code
use Rattle.cat_commands.specs.ledger.Chores.{MayRefuse, MayRefuseForce, chore_of}
use Rattle.cat_commands.specs.declared.ledger.chores.Chore as code_chore
use Rattle.cat_commands.specs.declared.ledger.chores.Chore.TheVariants.{Force, Merge, Stat, Sweep}
use Rattle.cat_ledger_laws.specs.model.Plans.{MergePolicy}
use Rattle.cat_commands.specs.views.Holding.{said_open}
use Rattle.cat_commands.specs.searches.Reads.{GivesDue}
use Rattle.cat_service.proofs.Beside.{IsLent}
use Rattle.cat_service.proofs.OkDue.{commit_files_ok, commit_ok, chore_ok, delete_ok, facets_owed, find_owed, get_ok, held_read_ok, newest_ok, note_ok, ok_shaped, open_ok, other, prune_ok, refresh_ok, snap_ok, token_files_ok, unsnap_ok}
use Rattle.cat_service.specs.Lines.{IsCommandOf}
use Rattle.cat_service.specs.Wanting.{AsksUnheld, IsOkDue, MayWant, WantsRightly}

-- want of memory may be told of what is said, whatever command that is
abbrev pub SaysMayWant : ToldFiles → Shape → ℕ → Said → Type 0
SaysMayWant told s session said = (c : Command) → IsCommand json s.schema said c → MayWant told s session (Some said) c

-- a reply that says that memory was wanting is a refusal that does
pub stopped : (result : Result code.Answer Refusal) → reply_of result ≡ Err Memory → result ≡ Err Memory
stopped (Ok a) h = absurd (let no : ◌≡◌ {A = Reply} (Ok (answer_of a)) (Err Memory) = h in cc)
stopped (Err e) h = ap (λ x. Err x) (same_refusal e Memory h)
  where
    same_refusal : (a b : Refusal) → ◌≡◌ {A = Reply} (Err a) (Err b) → a ≡ b
    same_refusal a b e = cc

-- what would have been refused isn't so
lower : (a b : ℕ) → (b ≤ a → ⊥) → a < b
lower a b never = elim (leb_tells b a) [
  | inl k ↦ absurd (never k.1)
  | inr k ↦ k.1
]

module _ (told : ToldFiles) (s : Shape) (session : ℕ) (result : Result code.Answer Refusal) (wants : result ≡ Err Memory) where
  -- no other refusal is given
  not_given : (e : Refusal) → e ≢ Memory → result ≡ Err e → ⊥
  not_given e differs is = other result wants e differs is

  -- an OK is due to the command that is said
  due_to : (d : Command) → IsOkDue told s session d → (c : Command) → c ≡ d → IsOkDue told s session c
  due_to d due c is = subst (IsOkDue told s session) (sym is) due

  -- what is said of the refusal that is given
  of_memory : (P : Refusal → Type 0) → IfErr result P → P Memory
  of_memory P h = subst (λ r. IfErr r P) wants h

  -- ---- writes

  json_fault : (b : Bool) → IfSome (if b then None else Some Json) (λ e. result ≡ Err e) → ◌≡◌ {A = Option Refusal} (if b then None else Some Json) None
  json_fault true due = refl
  json_fault false due = absurd (not_given Json (λ is. cc is) due)

  large_fault : (b : Bool) (o : Option Refusal) → (IfSome o (λ e. result ≡ Err e) → o ≡ None)
      → IfSome (if b then Some Large else o) (λ e. result ≡ Err e) → (if b then Some Large else o) ≡ None
  large_fault true o rest due = absurd (not_given Large (λ is. cc is) due)
  large_fault false o rest due = rest due

  pub put_wants : (text : Text) → IfSome (source_fault text) (λ e. result ≡ Err e) → SaysMayWant told s session (Said.put text)
  put_wants text due c is =
      large_fault (nat_lt source_limit (length text)) (text_fault text) (λ k. json_fault (is_utf8 text && nat_lt 0 (length text)) k) due

  pub delete_wants : (id : Text) → IfErr (id_of id) (λ e. result ≡ Err e) → (is_id id ≡ true → last_number ≤ s.count → result ≡ Err Spent)
      → SaysMayWant told s session (Said.delete id)
  delete_wants id wrong spent c is = due_to (Command.delete (id_of id)) (by (is_id id) refl wrong) c is
    where
      by : (b : Bool) → is_id id ≡ b → IfErr (cond b (Ok id) (Err Id)) (λ e. result ≡ Err e) → IsOkDue told s session (Command.delete (id_of id))
      by false is due = absurd (not_given Id (λ is. cc is) due)
      by true is due =
          let left : s.count < last_number = lower s.count last_number (λ none. not_given Spent (λ is. cc is) (spent is none)) in
          subst (λ (i : Result Text Refusal). IsOkDue told s session (Command.delete i)) (sym (ap (λ b. cond b (Ok id) (Err Id)) is))
          (ok_shaped told s session (Command.delete (Ok id)) (λ l e. delete_ok s l e session id left))

  spelled_one : (text : Text) (r : Result Query Refusal) → IsQueryOf s.schema text r
      → ((place : ℕ) → Fault s.schema text place → result ≡ Err (NoQuery place)) → (q : Query) × (r ≡ Ok q)
  spelled_one text _ (IsQueryOf.spelled q spells) fault = (q, refl)
  spelled_one text _ (IsQueryOf.faulty place k) fault = absurd (not_given (NoQuery place) (λ is. cc is) (fault place k))

  pub query_delete_wants : (text : Text) → ((place : ℕ) → Fault s.schema text place → result ≡ Err (NoQuery place))
      → SaysMayWant told s session (Said.delete_where text)
  query_delete_wants text fault c is =
      let one = spelled_one text is.0 is.1 fault in (one.0, is.2 ∙ ap (λ r. Command.delete_where r) one.1)

  -- ---- views

  pub refresh_wants : {A : Type 0} → ((MayRefresh s → ⊥) → (result ≡ Err Full) × A) → IfErr result (λ e. (e ≡ Memory) ⊎ (e ≡ Device) → MayNotFlush s → ⊥)
      → SaysMayWant told s session Said.refresh
  refresh_wants {A = A} full due c is = (
    due_to Command.refresh (ok_shaped told s session Command.refresh (λ l e. refresh_ok s l e session (by refused refl))) c is,
    of_memory (λ e. (e ≡ Memory) ⊎ (e ≡ Device) → MayNotFlush s → ⊥) due (inl refl),
  )
    where
      refused : Bool
      refused = not (list_any (λ v. v.token == s.count) s.views) && is_full (held_in s.holds) (tokens_of s.views)

      by : (b : Bool) → (not (list_any (λ v. v.token == s.count) s.views) && is_full (held_in s.holds) (tokens_of s.views)) ≡ b → MayRefresh s
      by false is = is
      by true is = absurd (not_given Full (λ is. cc is) (full (λ may. let no : true ≡ false = sym is ∙ may in cc)).0)

  pub open_wants : (token : Option ℕ) → IfErr result (λ e. e ≡ Memory → AsksUnheld s session token) → SaysMayWant told s session (said_open token)
  open_wants None due c is = (
    due_to Command.open_newest (ok_shaped told s session Command.open_newest (λ l e. newest_ok s l e session)) c is,
    of_memory (λ e. e ≡ Memory → AsksUnheld s session None) due refl,
  )
  open_wants (Some t) due c is =
      let asked = of_memory (λ e. e ≡ Memory → AsksUnheld s session (Some t)) due refl in
      (due_to (Command.open_at t) (ok_shaped told s session (Command.open_at t) (λ l e. open_ok s l e session t asked.1.1)) c is, asked)

  pub prune_wants : (n : ℕ) → SaysMayWant told s session (Said.prune n)
  prune_wants n c is = due_to (Command.prune n) (ok_shaped told s session (Command.prune n) (λ l e. prune_ok s l e session n)) c is

  pub close_wants : (t : ℕ) → IfErr result (λ e. e ≡ NotHeld) → SaysMayWant told s session (Said.close t)
  close_wants t refusal c is = let no : Memory ≡ NotHeld = of_memory (λ e. e ≡ NotHeld) refusal in cc

  -- ---- what is read by a right

  -- a token is held where it would have been refused
  held_else : (t : ℕ) → (has_hold s.holds session t ≡ false → result ≡ Err NotHeld) → has_hold s.holds session t ≡ true
  held_else t due = by (has_hold s.holds session t) refl
    where
      by : (b : Bool) → has_hold s.holds session t ≡ b → has_hold s.holds session t ≡ true
      by true is = is
      by false is = absurd (not_given NotHeld (λ is. cc is) (due is))

  pub get_wants : (t : ℕ) (id : Text) → IfErr (id_of id) (λ e. result ≡ Err e)
      → (id_of id ≡ Ok id → has_hold s.holds session t ≡ false → result ≡ Err NotHeld) → SaysMayWant told s session (Said.get t id)
  get_wants t id wrong due c is = due_to (Command.read t (Read.get (id_of id))) (by (is_id id) refl wrong) c is
    where
      by : (b : Bool) → is_id id ≡ b → IfErr (cond b (Ok id) (Err Id)) (λ e. result ≡ Err e)
          → IsOkDue told s session (Command.read t (Read.get (id_of id)))
      by false is due = absurd (not_given Id (λ is. cc is) due)
      by true is wrong =
          let right : id_of id ≡ Ok id = ap (λ b. cond b (Ok id) (Err Id)) is in
          let held : has_hold s.holds session t ≡ true = held_else t (due right) in
          subst (λ (i : Result Text Refusal). IsOkDue told s session (Command.read t (Read.get i))) (sym right)
          (ok_shaped told s session (Command.read t (Read.get (Ok id))) (λ l e. get_ok s l e session t id held))

  pub token_files_wants : (t : ℕ) → (has_hold s.holds session t ≡ false → result ≡ Err NotHeld) → SaysMayWant told s session (Said.files_of_token t)
  token_files_wants t due c is =
      let held : has_hold s.holds session t ≡ true = held_else t due in
      due_to (Command.files_of_token t) (ok_shaped told s session (Command.files_of_token t) (λ l e. token_files_ok s l e session t held)) c is

  -- ---- commits

  kept_else : (g : ℕ) → (kept_under s.commits g ≡ None → result ≡ Err NoCommit) → (commit : CommitFile) × (kept_under s.commits g ≡ Some commit)
  kept_else g due = by (kept_under s.commits g) refl
    where
      by : (o : Option CommitFile) → kept_under s.commits g ≡ o → (commit : CommitFile) × (kept_under s.commits g ≡ Some commit)
      by (Some commit) is = (commit, is)
      by None is = absurd (not_given NoCommit (λ is. cc is) (due is))

  pub commit_files_wants : (g : ℕ) → (kept_under s.commits g ≡ None → result ≡ Err NoCommit) → SaysMayWant told s session (Said.files_of_commit g)
  commit_files_wants g due c is =
      let kept = kept_else g due in
      due_to (Command.files_of_commit g) (ok_shaped told s session (Command.files_of_commit g) (λ l e. commit_files_ok s l e session g kept.0 kept.1)) c is

  pub note_wants : (g : ℕ) → (kept_under s.commits g ≡ None → result ≡ Err NoCommit) → SaysMayWant told s session (Said.text_of_commit g)
  note_wants g due c is =
      let kept = kept_else g due in
      due_to (Command.text_of_commit g) (ok_shaped told s session (Command.text_of_commit g) (λ l e. note_ok s l e session g kept.0 kept.1)) c is

  pub commit_wants : {B : Type 0} (A : Type 0) (text : Text) → IfErr (commit_text_of text) (λ e. (result ≡ Err e) × A)
      → (commit_text_of text ≡ Ok text → last_number < s.next_generation → (result ≡ Err Spent) × B)
      → IfErr result (λ e. (e ≡ Memory) ⊎ (e ≡ Device) → MayNotFlush s → ⊥) → SaysMayWant told s session (Said.commit text)
  commit_wants A text wrong none due c is =
      let right : commit_text_of text ≡ Ok text = by (ltb commit_text_limit (length text)) (list_all is_plain_byte text) refl refl wrong in
      let left : s.next_generation ≤ last_number = no_more s.next_generation last_number (λ more. not_given Spent (λ is. cc is) (none right more).0) in (
        due_to (Command.commit (Ok text)) (commit_ok told s session text left) c (is ∙ ap (λ (i : Result Text Refusal). Command.commit i) right),
        of_memory (λ e. (e ≡ Memory) ⊎ (e ≡ Device) → MayNotFlush s → ⊥) due (inl refl),
        left,
      )
    where
      by : (long plain : Bool) → ltb commit_text_limit (length text) ≡ long → list_all is_plain_byte text ≡ plain
          → IfErr (cond long (Err Large) (cond plain (Ok text) (Err WrongKind))) (λ e. (result ≡ Err e) × A) → commit_text_of text ≡ Ok text
      by true plain a b due = absurd (not_given Large (λ is. cc is) due.0)
      by false false a b due = absurd (not_given WrongKind (λ is. cc is) due.0)
      by false true a b due =
          ap (λ long. cond long (Err Large) (cond (list_all is_plain_byte text) (Ok text) (Err WrongKind))) a
          ∙ ap (λ plain. cond plain (Ok text) (Err WrongKind)) b

      no_more : (a b : ℕ) → (b < a → ⊥) → a ≤ b
      no_more a b never = elim (leb_tells a b) [
        | inl k ↦ k.1
        | inr k ↦ absurd (never k.1)
      ]

  pub snap_wants : IfErr result (λ e. e ≡ Memory → (g : ℕ) × (newest_generation s.commits ≡ Some g) × (snapshots_in s.taken g < snapshot_limit))
      → SaysMayWant told s session Said.snapshot
  snap_wants due c is =
      let may = of_memory (λ e. e ≡ Memory → (g : ℕ) × (newest_generation s.commits ≡ Some g) × (snapshots_in s.taken g < snapshot_limit)) due refl in
      due_to Command.snapshot (ok_shaped told s session Command.snapshot (λ l e. snap_ok s l e session may.0 may.1 may.2)) c is

  pub unsnap_wants : (g : ℕ) → IfErr result (λ e. e ≡ Memory → 0 < snapshots_in s.taken g) → SaysMayWant told s session (Said.release_snapshot g)
  unsnap_wants g due c is =
      let some = of_memory (λ e. e ≡ Memory → 0 < snapshots_in s.taken g) due refl in
      due_to (Command.release_snapshot g) (ok_shaped told s session (Command.release_snapshot g) (λ l e. unsnap_ok s l e session g some)) c is

  -- ---- maintenance

  -- session 0 alone is looked at
  zero : {A : Type 0} → (session ≢ 0 → (result ≡ Err NoForm) × A) → session ≡ 0
  zero foreign = elim (eqb_tells session 0) [
    | inl k ↦ k.1
    | inr k ↦ absurd (not_given NoForm (λ is. cc is) (foreign k.1).0)
  ]

  chore_due : {A : Type 0} (what : Chore) → (session ≢ 0 → (result ≡ Err NoForm) × A) → (c : Command) → c ≡ Command.chore what
      → IsOkDue told s session c
  chore_due what foreign c is = due_to (Command.chore what) (chore_ok told s session what (zero foreign)) c is

  pub warm_wants : {A : Type 0} → (session ≢ 0 → (result ≡ Err NoForm) × A) → SaysMayWant told s session (Said.chore Chore.warm)
  warm_wants foreign c is = chore_due Chore.warm foreign c is

  -- a command of maintenance
  pub maintained_wants : {A : Type 0} (policy : MergePolicy) (chore : code_chore.Chore) → (session ≢ 0 → (result ≡ Err NoForm) × A)
      → (session ≡ 0 → IfErr result (MayRefuse policy s chore)) → SaysMayWant told s session (Said.chore (chore_of chore))
  maintained_wants policy Merge foreign refusal c is = chore_due Chore.merge foreign c is
  maintained_wants policy Force foreign refusal c is =
      let may : MayRefuseForce s Memory = of_memory (MayRefuseForce s) (refusal (zero foreign)) in
      (chore_due Chore.force foreign c is, may.due, may.left (inl refl))
  maintained_wants policy Sweep foreign refusal c is = chore_due Chore.sweep foreign c is
  maintained_wants policy Stat foreign refusal c is = chore_due Chore.stat foreign c is

  -- ---- what is looked for in a view that is held

  module _ {R : Type 0} (value : R → View) (t : ℕ) (text : Text) (asked : Result Query Refusal → Read)
      (owed : (schema : Schema) (rs : List Record) (q : Query) → IfErr (answer schema rs (asked (Ok q))) (λ e. result ≡ Err e)
      → (found : Found) × (answer schema rs (asked (Ok q)) ≡ Ok found)) where
    read_wants : (held : Option R) → IsLent s session t value held
        → ((place : ℕ) → Fault s.schema text place → result ≡ Err (NoQuery place))
        → (held ≡ None → ((place : ℕ) → Fault s.schema text place → ⊥) → result ≡ Err NotHeld)
        → IfSome held (λ v. (q : Query) → Spells s.schema text q → GivesDue (value v) (asked (Ok q)) result)
        → (r : Result Query Refusal) → IsQueryOf s.schema text r → IsOkDue told s session (Command.read t (asked r))
    read_wants held lent fault unheld due _ (IsQueryOf.faulty place k) = absurd (not_given (NoQuery place) (λ is. cc is) (fault place k))
    read_wants None lent fault unheld due _ (IsQueryOf.spelled q spells) =
        absurd (not_given NotHeld (λ is. cc is) (unheld refl (λ place k. not_given (NoQuery place) (λ is. cc is) (fault place k))))
    read_wants (Some v) lent fault unheld due _ (IsQueryOf.spelled q spells) =
        ok_shaped told s session (Command.read t (asked (Ok q))) (λ l e.
        held_read_ok s l e session t (value v) (asked (Ok q)) lent.some.0 lent.some.1 (λ rs shows. owed (value v).schema rs q (due q spells rs shows)))

  -- a FIND
  pub find_wants : {R : Type 0} (value : R → View) (held : Option R) (t : ℕ) → IsLent s session t value held
      → (n : ℕ) (sort : Sort) (mark : Option ℕ) (text : Text) → ((place : ℕ) → Fault s.schema text place → result ≡ Err (NoQuery place))
      → (held ≡ None → ((place : ℕ) → Fault s.schema text place → ⊥) → result ≡ Err NotHeld)
      → IfSome held (λ v. (q : Query) → Spells s.schema text q → GivesDue (value v) (Read.find n sort mark (Ok q)) result)
      → SaysMayWant told s session (Said.find t n sort mark text)
  find_wants value held t lent n sort mark text fault unheld due c is =
      let ok =
      read_wants value t text (λ q. Read.find n sort mark q) (λ schema rs q left. find_owed result wants schema rs n sort mark q left) held lent fault unheld due
      is.0 is.1 in
      due_to (Command.read t (Read.find n sort mark is.0)) ok c is.2

  -- a FACETS
  pub facets_wants : {R : Type 0} (value : R → View) (held : Option R) (t : ℕ) → IsLent s session t value held
      → (dim : Text) (n : ℕ) (text : Text) → ((place : ℕ) → Fault s.schema text place → result ≡ Err (NoQuery place))
      → (held ≡ None → ((place : ℕ) → Fault s.schema text place → ⊥) → result ≡ Err NotHeld)
      → IfSome held (λ v. (q : Query) → Spells s.schema text q → GivesDue (value v) (Read.facets dim n (Ok q)) result)
      → SaysMayWant told s session (Said.facets t dim n text)
  facets_wants value held t lent dim n text fault unheld due c is =
      let ok =
      read_wants value t text (λ q. Read.facets dim n q) (λ schema rs q left. facets_owed result wants schema rs dim n q left) held lent fault unheld due
      is.0 is.1 in
      due_to (Command.read t (Read.facets dim n is.0)) ok c is.2

-- ---- behind a run

-- the tokens of views are those that were recorded
tokens_recorded : (start : Start) (run : Run) (ts : List ℕ) → tokens (map (table_recorded start run) ts) ≡ ts
tokens_recorded start run [] = refl
tokens_recorded start run (t ∷ ts) = ap (λ us. t ∷ us) (tokens_recorded start run ts)

module _ (told : ToldFiles) (s : Shape) (session : ℕ) where
  module _ (from : Opened) (run : Run) (stands : Stands told s from run) where
    -- what the session doesn't hold by memory, it doesn't hold by the run
    unheld_in : (t : ℕ) → has_hold s.holds session t ≡ false → holds session t run ≡ false
    unheld_in t none =
        sym (stands.stands.shows.holds_now session t) ∙ held_as s stands.ledger stands.carries.shape session t false none

    -- and the newest view is the run's
    newest_in : greatest (tokens_of s.views) ≡ greatest (view_tokens from.start run)
    newest_in =
        let l = stands.ledger in
        let start = from.start in
        let kept : tokens_of s.views ≡ map (λ v. v.token) l.views =
        ap (λ (x : Shape). tokens_of x.views) (sym stands.carries.shape) ∙ map_twice (recorded_view l.schema) (λ (v : View). v.token) l.views in
        let shown : map (λ v. v.token) l.views ≡ view_tokens start run =
        sym (map_twice view_shown (λ (v : RecordedTable). v.token) l.views)
        ∙ ap tokens stands.stands.shows.views_now
        ∙ tokens_recorded start run (view_tokens start run) in
        ap greatest (kept ∙ shown)

    newest_unheld : AsksUnheld s session None → holds session (greatest (view_tokens from.start run)) run ≡ false
    newest_unheld asked = subst (λ t. holds session t run ≡ false) (asked.1 ∙ newest_in) (unheld_in asked.0 asked.2)

    token_unheld : (t : ℕ) → AsksUnheld s session (Some t) → holds session t run ≡ false
    token_unheld t asked = subst (λ t. holds session t run ≡ false) asked.1.0 (unheld_in asked.0 asked.2)

  -- where nothing but that an OK fits is asked for
  fits : (d c : Command) → c ≡ d → IsOkDue told s session c → (IsOkDue told s session d → WantsRightly told s session d) → WantsRightly told s session c
  fits d c is ok as_due = subst (WantsRightly told s session) (sym is) (as_due (subst (IsOkDue told s session) is ok))

  -- whatever run led here, want of memory is told of the command where it may be
  pub wants_rightly : (said : Option Said) (c : Command) → IsCommandOf s.schema said c → MayWant told s session said c → WantsRightly told s session c
  wants_rightly None c is may = absurd may
  wants_rightly (Some (Said.close t)) c is may = absurd may
  wants_rightly (Some (Said.put text)) c is may = subst (WantsRightly told s session) (sym is) (λ from run fields is_run stands. tt)
  wants_rightly (Some (Said.delete_where text)) c is may =
      subst (WantsRightly told s session) (sym may.1) (λ from run fields is_run stands. (may.0, refl))
  wants_rightly (Some Said.refresh) c is may = fits Command.refresh c is may.0 (λ ok. ok)
  wants_rightly (Some (Said.chore Chore.force)) c is may = fits (Command.chore Chore.force) c is may.0 (λ ok. ok)
  wants_rightly (Some (Said.chore Chore.merge)) c is may = fits (Command.chore Chore.merge) c is may (λ ok. ok)
  wants_rightly (Some (Said.chore Chore.warm)) c is may = fits (Command.chore Chore.warm) c is may (λ ok. ok)
  wants_rightly (Some (Said.chore Chore.sweep)) c is may = fits (Command.chore Chore.sweep) c is may (λ ok. ok)
  wants_rightly (Some (Said.chore Chore.stat)) c is may = fits (Command.chore Chore.stat) c is may (λ ok. ok)
  wants_rightly (Some (Said.delete text)) c is may = fits (Command.delete (id_of text)) c is may (λ ok. ok)
  wants_rightly (Some Said.open_newest) c is may =
      fits Command.open_newest c is may.0 (λ ok from run fields is_run stands. (ok from run fields is_run stands, newest_unheld from run stands may.1))
  wants_rightly (Some (Said.open_at t)) c is may =
      fits (Command.open_at t) c is may.0 (λ ok from run fields is_run stands. (ok from run fields is_run stands, token_unheld from run stands t may.1))
  wants_rightly (Some (Said.find t n sort mark text)) c is may = fits (Command.read t (Read.find n sort mark is.0)) c is.2 may (λ ok. ok)
  wants_rightly (Some (Said.facets t dim n text)) c is may = fits (Command.read t (Read.facets dim n is.0)) c is.2 may (λ ok. ok)
  wants_rightly (Some (Said.get t text)) c is may = fits (Command.read t (Read.get (id_of text))) c is may (λ ok. ok)
  wants_rightly (Some (Said.files_of_token t)) c is may = fits (Command.files_of_token t) c is may (λ ok. ok)
  wants_rightly (Some (Said.files_of_commit g)) c is may = fits (Command.files_of_commit g) c is may (λ ok. ok)
  wants_rightly (Some (Said.commit text)) c is may = fits (Command.commit (commit_text_of text)) c is may.0 (λ ok. ok)
  wants_rightly (Some (Said.text_of_commit g)) c is may = fits (Command.text_of_commit g) c is may (λ ok. ok)
  wants_rightly (Some Said.snapshot) c is may = fits Command.snapshot c is may (λ ok. ok)
  wants_rightly (Some (Said.release_snapshot g)) c is may = fits (Command.release_snapshot g) c is may (λ ok. ok)
  wants_rightly (Some (Said.prune n)) c is may = fits (Command.prune n) c is may (λ ok. ok)

-- ---- of a reply that is like another

-- one that says so is like no other
pub alike_wants : (reply fitting : Reply) → ReplyLike reply fitting → fitting ≡ Err Memory → reply ≡ Err Memory
alike_wants (Ok (Answer.number n)) fitting alike is = alike ∙ is
alike_wants (Ok (Answer.found (Found.page p))) fitting alike is = alike ∙ is
alike_wants (Ok (Answer.found (Found.facets f))) fitting alike is = alike ∙ is
alike_wants (Ok (Answer.found (Found.source None))) fitting alike is = alike ∙ is
alike_wants (Ok (Answer.found (Found.source (Some text)))) (Ok (Answer.found (Found.source (Some other)))) alike is =
    absurd (let bad : ◌≡◌ {A = Reply} (Ok (Answer.found (Found.source (Some other)))) (Err Memory) = is in cc)
alike_wants (Ok (Answer.found (Found.source (Some text)))) (Ok (Answer.found (Found.source None))) alike is = alike ∙ is
alike_wants (Ok (Answer.found (Found.source (Some text)))) (Ok (Answer.found (Found.page p))) alike is = alike ∙ is
alike_wants (Ok (Answer.found (Found.source (Some text)))) (Ok (Answer.found (Found.facets f))) alike is = alike ∙ is
alike_wants (Ok (Answer.found (Found.source (Some text)))) (Ok (Answer.number n)) alike is = alike ∙ is
alike_wants (Ok (Answer.found (Found.source (Some text)))) (Ok (Answer.names ns)) alike is = alike ∙ is
alike_wants (Ok (Answer.found (Found.source (Some text)))) (Ok (Answer.commit_text t)) alike is = alike ∙ is
alike_wants (Ok (Answer.found (Found.source (Some text)))) (Ok (Answer.news n)) alike is = alike ∙ is
alike_wants (Ok (Answer.found (Found.source (Some text)))) (Err e) alike is = alike ∙ is
alike_wants (Ok (Answer.names ns)) fitting alike is = alike ∙ is
alike_wants (Ok (Answer.commit_text t)) fitting alike is = alike ∙ is
alike_wants (Ok (Answer.news n)) fitting alike is = alike ∙ is
alike_wants (Err e) fitting alike is = alike ∙ is
