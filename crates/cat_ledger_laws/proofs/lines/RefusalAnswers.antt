-- Refusals that change nothing.
use Rattle.std.proofs.Common.{◌≡◌, ◌≢◌, ℕ, ◌+◌, ◌-◌, ◌<◌, ◌≤◌, List, Bool, true, false, cond, not, ◌&&◌, ltb, Option, Some, None, refl, sym, ◌∙◌, ap, subst, arith, inl, inr}
use Rattle.std.specs.Prelude.{◌==◌, Ok, Err}
use Rattle.std.specs.List.{last_or, list_any}
use Rattle.std.proofs.lemmas.Bool.Decides.{nat_tests}
use Rattle.cat_model.specs.cat_base.declared.refusal.Refusal.{Refusal}
use Rattle.cat_model.specs.cat_base.declared.refusal.Refusal.TheVariants.{Line as NoForm, Spent, Full, NoCommit, NoSnapshot}
use Rattle.cat_model.specs.Answer.{Read, query_refusal}
use Rattle.cat_model.specs.CommitFile.{CommitFile}
use Rattle.cat_model.specs.Item.{Schema, Record, IsItem}
use Rattle.cat_model.specs.Limits.{last_number, snapshot_limit}
use Rattle.cat_model.specs.Run.{Command, News, Answer, Reply, is_full, read_reply, snapshot_of}
use Rattle.cat_model.specs.State.{Commit, has_hold, held_in, refuses_refresh, snapshots_in, table_under}
use Rattle.cat_model.specs.View.{View}
use Rattle.cat_model.specs.Write.{Write}
use Rattle.cat_ledger_laws.specs.model.Calls.{wrote, Flushes, RecordsView, Unsnapped, newest_in}
use Rattle.cat_ledger_laws.specs.model.Ledger.{Ledger, commit_file, commit_shown, state_of}
use Rattle.cat_ledger_laws.specs.model.Plans.{MergePolicy}
use Rattle.cat_ledger_laws.specs.model.Replies.{MakesRoom, Maintains, CarriesOut}
use Rattle.cat_ledger_laws.specs.shape.Shapes.{Shape, shape_of}
use Rattle.cat_ledger_laws.specs.shape.Steps.{newest_generation, tokens_of}
use Rattle.cat_ledger_laws.proofs.shape.Leaves.{map_twice}
use Rattle.cat_ledger_laws.specs.lines.LineLaws.{line_of, MayRefresh}
use Rattle.cat_ledger_laws.specs.lines.RefusalLaws.{fault_of, command_of, FaultsAnswer, SpentWritesAnswer, SpentCommitsAnswer, FullRefreshesAnswer, CommitlessSnapsAnswer, SpentSnapsAnswer, SnaplessUnsnapsAnswer, ForeignChoresAnswer}
use Rattle.cat_ledger_laws.proofs.lines.LineAnswers.{answers_still, given, denied, refuses_shown}

-- ---- faults of texts

abbrev refused : Option Refusal → Reply
refused None = Err NoForm
refused (Some r) = Err r

told_as : (d e : Refusal) → Some d ≡ Some e → ◌≡◌ {A = Reply} (Err e) (Err d)
told_as d e h = ap refused (sym h)

none_told : {A : Type 0} (e : Refusal) → None ≡ Some e → A
none_told e h = absurd (cc h)

read_faults : (held : Bool) (schema : Schema) (rs : List Record) (asked : Read) (e : Refusal) → query_refusal asked ≡ Some e → Err e ≡ read_reply held schema rs asked
read_faults held schema rs (Read.find n sort mark (Ok q)) e h = none_told e h
read_faults true schema rs (Read.find n sort mark (Err d)) e h = told_as d e h
read_faults false schema rs (Read.find n sort mark (Err d)) e h = told_as d e h
read_faults held schema rs (Read.facets dim n (Ok q)) e h = none_told e h
read_faults true schema rs (Read.facets dim n (Err d)) e h = told_as d e h
read_faults false schema rs (Read.facets dim n (Err d)) e h = told_as d e h
read_faults held schema rs (Read.get (Ok id)) e h = none_told e h
read_faults true schema rs (Read.get (Err d)) e h = told_as d e h
read_faults false schema rs (Read.get (Err d)) e h = told_as d e h

module _ (policy : MergePolicy) (l : Ledger) (session : ℕ) (e : Refusal) where
  faults : (c : Command) → fault_of c ≡ Some e → CarriesOut policy l session c (Err e) l
  faults Command.formless h = (told_as NoForm e h, refl)
  faults (Command.put (Ok i)) h = none_told e h
  faults (Command.put (Err d)) h = (told_as d e h, refl)
  faults (Command.delete (Ok id)) h = none_told e h
  faults (Command.delete (Err d)) h = (told_as d e h, refl)
  faults (Command.delete_where (Ok q)) h = none_told e h
  faults (Command.delete_where (Err d)) h = (told_as d e h, refl)
  faults Command.refresh h = none_told e h
  faults Command.open_newest h = none_told e h
  faults (Command.open_at t) h = none_told e h
  faults (Command.close t) h = none_told e h
  faults (Command.read t asked) h = (read_faults (has_hold l.holds session t) l.schema (table_under (state_of l).views t) asked e h, refl)
  faults (Command.prune n) h = none_told e h
  faults (Command.commit (Ok text)) h = none_told e h
  faults (Command.commit (Err d)) h = (told_as d e h, refl)
  faults Command.snapshot h = none_told e h
  faults (Command.release_snapshot g) h = none_told e h
  faults (Command.files_of_token t) h = none_told e h
  faults (Command.files_of_commit g) h = none_told e h
  faults (Command.text_of_commit g) h = none_told e h
  faults (Command.chore c) h = none_told e h

pub faults_answer : FaultsAnswer
faults_answer policy told told' s new session c e h still = answers_still policy told told' s new (line_of session c) (Err e) still (λ l is. inl (faults policy l session e c h))

-- ---- numbers that are used up

pub not_below : (a b : ℕ) → b ≤ a → ltb a b ≡ false
not_below a b h = grind (arith, nat_tests)

spent_by : (policy : MergePolicy) (l : Ledger) (session : ℕ) (w : Write) → ltb l.count last_number ≡ false → CarriesOut policy l session (command_of w) (Err Spent) l
spent_by policy l session (Write.put i) none =
    denied ((mid : Ledger) × MakesRoom l mid × IsItem l.schema i × ◌≡◌ {A = Reply} (Err Spent) (Ok (Answer.number (l.count + 1))) × (l ≡ wrote mid (Write.put i))) (ltb l.count last_number) none (refl, refl)
spent_by policy l session (Write.delete id) none =
    denied (◌≡◌ {A = Reply} (Err Spent) (Ok (Answer.number (l.count + 1))) × (l ≡ wrote l (Write.delete id))) (ltb l.count last_number) none (refl, refl)
spent_by policy l session (Write.delete_where q) none =
    denied (◌≡◌ {A = Reply} (Err Spent) (Ok (Answer.number (l.count + 1))) × (l ≡ wrote l (Write.delete_where q))) (ltb l.count last_number) none (refl, refl)

pub spent_writes_answer : SpentWritesAnswer
spent_writes_answer policy told told' s new session w none still = answers_still policy told told' s new (line_of session (command_of w)) (Err Spent) still (λ l e.
    inl (spent_by policy l session w (not_below l.count last_number (subst (λ (s : Shape). last_number ≤ s.count) (sym e) none))))

pub spent_commits_answer : SpentCommitsAnswer
spent_commits_answer policy told told' s new session text none still = answers_still policy told told' s new (line_of session (Command.commit (Ok text))) (Err Spent) still (λ l e.
    inr (inr (refl, subst (λ (s : Shape). last_number < s.next_generation) (sym e) none, refl)))

-- ---- REFRESH

not_false : (b : Bool) → (b ≡ false → ⊥) → b ≡ true
not_false true h = refl
not_false false h = absurd (h refl)

refuses_as : (s : Shape) (l : Ledger) → shape_of l ≡ s → (MayRefresh s → ⊥) → refuses_refresh (state_of l) ≡ true
refuses_as s l e full =
    refuses_shown l
    ∙ ap (λ (s : Shape). not (list_any (λ (v : View). v.token == s.count) s.views) && is_full (held_in s.holds) (tokens_of s.views)) e
    ∙ not_false (not (list_any (λ (v : View). v.token == s.count) s.views) && is_full (held_in s.holds) (tokens_of s.views)) full

pub full_refreshes_answer : FullRefreshesAnswer
full_refreshes_answer policy told told' s new session full still = answers_still policy told told' s new (line_of session Command.refresh) (Err Full) still (λ l e.
    inl (given ((mid : Ledger) × Flushes l mid × RecordsView mid l × ◌≡◌ {A = Reply} (Err Full) (Ok (Answer.number l.count))) (refuses_refresh (state_of l)) (refuses_as s l e full) (refl, refl)))

-- ---- snapshots

newest_as : (s : Shape) (l : Ledger) → shape_of l ≡ s → newest_in l.commits ≡ newest_generation s.commits
newest_as s l e =
    ap (last_or None) (map_twice commit_shown (λ (c : Commit). c.generation) l.commits ∙ sym (map_twice (commit_file l.schema) (λ (c : CommitFile). c.generation) l.commits))
    ∙ ap (λ (s : Shape). newest_generation s.commits) e

pub commitless_snaps_answer : CommitlessSnapsAnswer
commitless_snaps_answer policy told told' s new session none still = answers_still policy told told' s new (line_of session Command.snapshot) (Err NoCommit) still (λ l e.
    inl (sym (ap (snapshot_of (snapshots_in l.taken)) (newest_as s l e ∙ none)), refl))

pub spent_snaps_answer : SpentSnapsAnswer
spent_snaps_answer policy told told' s new session g newest many still = answers_still policy told told' s new (line_of session Command.snapshot) (Err Spent) still (λ l e.
    let full : ltb (snapshots_in l.taken g) snapshot_limit ≡ false = not_below (snapshots_in l.taken g) snapshot_limit (subst (λ (s : Shape). snapshot_limit ≤ snapshots_in s.taken g) (sym e) many) in
    let told_so : snapshot_of (snapshots_in l.taken) (Some g) ≡ Err Spent = ap (λ b. cond b (Ok (Answer.number g)) (Err Spent)) full in
    inl (sym (ap (snapshot_of (snapshots_in l.taken)) (newest_as s l e ∙ newest) ∙ told_so), refl))

pub snapless_unsnaps_answer : SnaplessUnsnapsAnswer
snapless_unsnaps_answer policy told told' s new session g none still = answers_still policy told told' s new (line_of session (Command.release_snapshot g)) (Err NoSnapshot) still (λ l e.
    inl (denied (◌≡◌ {A = Reply} (Err NoSnapshot) (Ok (Answer.number (snapshots_in l.taken g - 1))) × Unsnapped g l l) (ltb 0 (snapshots_in l.taken g))
    (ap (λ n. ltb 0 n) (ap (λ (s : Shape). snapshots_in s.taken g) e ∙ none)) (refl, refl)))

-- ---- maintenance

not_zero : (n : ℕ) → n ≢ 0 → (n == 0) ≡ false
not_zero n h = grind (arith, nat_tests)

pub foreign_chores_answer : ForeignChoresAnswer
foreign_chores_answer policy told told' s new session c other still = answers_still policy told told' s new (line_of session (Command.chore c)) (Err NoForm) still (λ l e.
    inl (denied ((n : News) × ◌≡◌ {A = Reply} (Err NoForm) (Ok (Answer.news n)) × Maintains policy c n l l) (session == 0) (not_zero session other) (refl, refl)))
