-- The replies to lines, from what the calls of the model make of each ledger that is carried.
use Rattle.std.proofs.Common.{◌≡◌, ℕ, ◌+◌, ◌-◌, ◌<◌, List, map, length, Bool, true, false, cond, not, ◌&&◌, ltb, Some, None, refl, sym, ◌∙◌, ap, ap₂, subst, arith, inl, inr}
use Rattle.std.specs.Prelude.{◌==◌, Ok, Err}
use Rattle.cat_model.specs.Item.{IsItem}
use Rattle.std.specs.List.{list_any}
use Rattle.std.proofs.lemmas.Bool.Decides.{nat_tests}
use Rattle.cat_model.specs.cat_base.declared.refusal.Refusal.TheVariants.{Full, Spent, NoSnapshot, Memory}
use Rattle.cat_model.specs.Answer.{Found}
use Rattle.cat_model.specs.Write.{Write}
use Rattle.cat_model.specs.Limits.{last_number, snapshot_limit}
use Rattle.cat_model.specs.Run.{Command, Line, Answer, Reply, is_full, snapshot_of}
use Rattle.cat_model.specs.State.{RecordedTable, held_in, snapshots_in, refuses_refresh, written, refreshed}
use Rattle.cat_model.specs.View.{View}
use Rattle.cat_ledger_laws.specs.model.Ledger.{Ledger, view_shown, state_of}
use Rattle.cat_ledger_laws.specs.model.Plans.{MergePolicy}
use Rattle.cat_ledger_laws.specs.model.Calls.{wrote, Flushes, Snaps, Unsnapped}
use Rattle.cat_ledger_laws.specs.model.Replies.{IsLeft, MayStop, Calls}
use Rattle.cat_ledger_laws.specs.shape.Shapes.{Shape, shape_of, recorded_view}
use Rattle.cat_ledger_laws.specs.shape.Steps.{tokens_of}
use Rattle.cat_ledger_laws.specs.shape.Ties.{ToldFiles, Makes, TouchesNothing}
use Rattle.cat_ledger_laws.specs.lines.RunLaws.{AnswersCarried, ReplyLike}
use Rattle.cat_ledger_laws.specs.lines.LineLaws.{line_of, tells, NothingChanges, CallsAnswer, Puts, PutsAnswer, DeletesAnswer, QueryDeletesAnswer, MayRefresh, Refreshes, RefreshesAnswer, PrunesAnswer, Commits, CommitsAnswer, SnapsAnswer, UnsnapsAnswer, MemoryAnswers, StoppedPutsAnswer, StoppedRefreshesAnswer}
use Rattle.cat_ledger_laws.specs.model.Stored.{FileBytes, AreStored}
use Rattle.cat_ledger_laws.proofs.model.Replies.{calls_are_steps}
use Rattle.cat_ledger_laws.proofs.shape.Told.{makes_of, makes_still, agrees_still}
use Rattle.cat_ledger_laws.proofs.shape.Leaves.{any_map, map_twice, length_map}

pub alike_self : (r : Reply) → ReplyLike r r
alike_self (Ok (Answer.number n)) = refl
alike_self (Ok (Answer.found (Found.page p))) = refl
alike_self (Ok (Answer.found (Found.facets f))) = refl
alike_self (Ok (Answer.found (Found.source None))) = refl
alike_self (Ok (Answer.found (Found.source (Some text)))) = refl
alike_self (Ok (Answer.names ns)) = refl
alike_self (Ok (Answer.commit_text t)) = refl
alike_self (Ok (Answer.news n)) = refl
alike_self (Err e) = refl

pub calls_answer : CallsAnswer
calls_answer policy told told' s new line reply made l files c = let x = made l files c in (x.0, x.1, reply, record { alike = alike_self reply; same = λ h. refl }, x.2, x.3)

pub answers_by : (policy : MergePolicy) (told told' : ToldFiles) (s new : Shape) (line : Line) (reply : Reply) (call : Ledger → Ledger → Type 0) → ((l l' : Ledger) → shape_of l ≡ s → call l l' → Calls policy l line reply l')
    → Makes call told s told' new → AnswersCarried policy told s line reply told' new
answers_by policy told told' s new line reply call f m = calls_answer policy told told' s new line reply (makes_of call (λ l l'. Calls policy l line reply l') told told' s new f m)

-- Where nothing of the device is touched, it is enough to say what the calls make of each ledger of the shape, that it needs no other
-- file, and what shape that has.
pub answers_untouched : (policy : MergePolicy) (told told' : ToldFiles) (s new : Shape) (line : Line) (reply : Reply) → TouchesNothing told told'
    → ((l : Ledger) → shape_of l ≡ s → (l' : Ledger) × (shape_of l' ≡ new) × Calls policy l line reply l' × ((files : FileBytes) → AreStored files l → AreStored files l'))
    → AnswersCarried policy told s line reply told' new
answers_untouched policy told told' s new line reply same f l files c =
    let x = f l c.shape in (
      x.0,
      files,
      reply,
      record { alike = alike_self reply; same = λ h. refl },
      x.2,
      record { shape = x.1; sound = (calls_are_steps policy l x.0 line reply c.sound x.2).0; stored = x.3 files c.stored; agrees = agrees_still told told' files same c.agrees },
    )

-- where nothing changes, the calls have to leave each ledger of the shape as it is
pub answers_still : (policy : MergePolicy) (told told' : ToldFiles) (s new : Shape) (line : Line) (reply : Reply) → NothingChanges told s told' new
    → ((l : Ledger) → shape_of l ≡ s → Calls policy l line reply l) → AnswersCarried policy told s line reply told' new
answers_still policy told told' s new line reply same f = calls_answer policy told told' s new line reply (makes_still (λ l l'. Calls policy l line reply l') told told' s new same.0 same.1 f)

pub given : {A : Type 0} (B : Type 0) (b : Bool) → b ≡ true → A → cond b A B
given B true e a = a
given B false e a = absurd (let no : false ≡ true = e in cc)

pub denied : {B : Type 0} (A : Type 0) (b : Bool) → b ≡ false → B → cond b A B
denied A true e a = absurd (let no : true ≡ false = e in cc)
denied A false e a = a

pub below : (a b : ℕ) → a < b → ltb a b ≡ true
below a b h = grind (arith, nat_tests)

-- ---- what is carried out

module _ (s : Shape) (l : Ledger) (e : shape_of l ≡ s) where
  count_left : s.count < last_number → ltb l.count last_number ≡ true
  count_left h = below l.count last_number (subst (λ (s : Shape). s.count < last_number) (sym e) h)

  count_told : tells (s.count + 1) ≡ tells (l.count + 1)
  count_told = ap (λ (s : Shape). tells (s.count + 1)) (sym e)

pub puts_answer : PutsAnswer
puts_answer policy told told' s new session i left item = answers_by policy told told' s new (line_of session (Command.put (Ok i))) (tells (s.count + 1)) (Puts i) (λ l l' e k.
    inl (given ((tells (s.count + 1) ≡ Err Spent) × (l' ≡ l)) (ltb l.count last_number) (count_left s l e left) (k.0, k.1, subst (λ (s : Shape). IsItem s.schema i) (sym e) item, count_told s l e, k.2)))

pub deletes_answer : DeletesAnswer
deletes_answer policy told told' s new session id left = answers_by policy told told' s new (line_of session (Command.delete (Ok id))) (tells (s.count + 1)) (λ l l'. l' ≡ wrote l (Write.delete id)) (λ l l' e k.
    inl (given ((tells (s.count + 1) ≡ Err Spent) × (l' ≡ l)) (ltb l.count last_number) (count_left s l e left) (count_told s l e, k)))

pub query_deletes_answer : QueryDeletesAnswer
query_deletes_answer policy told told' s new session q left = answers_by policy told told' s new (line_of session (Command.delete_where (Ok q))) (tells (s.count + 1)) (λ l l'. l' ≡ wrote l (Write.delete_where q)) (λ l l' e k.
    inl (given ((tells (s.count + 1) ≡ Err Spent) × (l' ≡ l)) (ltb l.count last_number) (count_left s l e left) (count_told s l e, k)))

pub refuses_shown : (l : Ledger) → refuses_refresh (state_of l) ≡ (not (list_any (λ (v : View). v.token == l.count) (map (recorded_view l.schema) l.views)) && is_full (held_in l.holds) (tokens_of (map (recorded_view l.schema) l.views)))
refuses_shown l = ap₂ (λ (b : Bool) (ts : List ℕ). not b && is_full (held_in l.holds) ts)
    (any_map view_shown (λ (v : RecordedTable). v.token == l.count) l.views ∙ sym (any_map (recorded_view l.schema) (λ (v : View). v.token == l.count) l.views))
    (map_twice view_shown (λ (v : RecordedTable). v.token) l.views ∙ sym (map_twice (recorded_view l.schema) (λ (v : View). v.token) l.views))

pub refresh_may : (s : Shape) (l : Ledger) → shape_of l ≡ s → MayRefresh s → refuses_refresh (state_of l) ≡ false
refresh_may s l e h = refuses_shown l ∙ subst (λ s. MayRefresh s) (sym e) h

pub refreshes_answer : RefreshesAnswer
refreshes_answer policy told told' s new session may = answers_by policy told told' s new (line_of session Command.refresh) (tells s.count) Refreshes (λ l l' e k.
    inl (denied ((tells s.count ≡ Err Full) × (l' ≡ l)) (refuses_refresh (state_of l)) (refresh_may s l e may) (k.0, k.1, k.2, ap (λ (s : Shape). tells s.count) (sym e))))

views_long : (s : Shape) (l : Ledger) → shape_of l ≡ s → length s.views ≡ length l.views
views_long s l e = ap (λ (s : Shape). length s.views) (sym e) ∙ length_map (recorded_view l.schema) l.views

pub prunes_answer : PrunesAnswer
prunes_answer policy told told' s new session n = λ m. calls_answer policy told told' s new (line_of session (Command.prune n)) (tells (length s.views - length new.views)) (λ l files c.
    let x = m l files c in
    (x.0, x.1, inl (ap₂ (λ (a b : ℕ). tells (a - b)) (views_long s l c.shape) (views_long new x.0 x.3.shape), x.2), x.3))

pub number_stays : (l mid : Ledger) → Flushes l mid → mid.next_generation ≡ l.next_generation
number_stays l mid (inl f) = ap (λ (l : Ledger). l.next_generation) f.1
number_stays l mid (inr f) = ap (λ (l : Ledger). l.next_generation) f.rest

pub commits_answer : CommitsAnswer
commits_answer policy told told' s new session text = answers_by policy told told' s new (line_of session (Command.commit (Ok text))) (tells s.next_generation) (Commits text) (λ l l' e k.
    inl (k.0, k.1, k.2, ap (λ (s : Shape). tells s.next_generation) (sym e) ∙ ap tells (sym (number_stays l k.0 k.1))))

pub snaps_answer : SnapsAnswer
snaps_answer policy told told' s new session g few = answers_by policy told told' s new (line_of session Command.snapshot) (tells g) (Snaps g) (λ l l' e k.
    let may : ltb (snapshots_in l.taken g) snapshot_limit ≡ true = below (snapshots_in l.taken g) snapshot_limit (subst (λ (s : Shape). snapshots_in s.taken g < snapshot_limit) (sym e) few) in
    let told_so : snapshot_of (snapshots_in l.taken) (Some g) ≡ tells g = ap (λ b. cond b (tells g) (Err Spent)) may in
    inl (sym (ap (snapshot_of (snapshots_in l.taken)) k.newest ∙ told_so), k))

pub unsnaps_answer : UnsnapsAnswer
unsnaps_answer policy told told' s new session g some = answers_by policy told told' s new (line_of session (Command.release_snapshot g)) (tells (snapshots_in s.taken g - 1)) (Unsnapped g) (λ l l' e k.
    inl (given ((tells (snapshots_in s.taken g - 1) ≡ Err NoSnapshot) × (l' ≡ l)) (ltb 0 (snapshots_in l.taken g)) (below 0 (snapshots_in l.taken g) k.some) (ap (λ (s : Shape). tells (snapshots_in s.taken g - 1)) (sym e), k)))

-- ---- what is stopped

memory_may_stop : (l : Ledger) (c : Command) → MayStop l c (Err Memory)
memory_may_stop l (Command.commit (Ok text)) = inl refl
memory_may_stop l (Command.commit (Err e)) = tt
memory_may_stop l Command.formless = tt
memory_may_stop l (Command.put i) = tt
memory_may_stop l (Command.delete i) = tt
memory_may_stop l (Command.delete_where q) = tt
memory_may_stop l Command.refresh = tt
memory_may_stop l Command.open_newest = tt
memory_may_stop l (Command.open_at t) = tt
memory_may_stop l (Command.close t) = tt
memory_may_stop l (Command.read t asked) = tt
memory_may_stop l (Command.files_of_token t) = tt
memory_may_stop l (Command.chore c) = tt
memory_may_stop l (Command.prune n) = tt
memory_may_stop l Command.snapshot = tt
memory_may_stop l (Command.release_snapshot g) = tt
memory_may_stop l (Command.files_of_commit g) = tt
memory_may_stop l (Command.text_of_commit g) = tt

pub memory_answers : MemoryAnswers
memory_answers policy told told' s new line looked = answers_by policy told told' s new line (Err Memory) IsLeft (λ l l' e k. inr (inl (inl (refl, looked), k, memory_may_stop l line.command)))

pub stopped_puts_answer : StoppedPutsAnswer
stopped_puts_answer policy told told' s new session i refusal left may = answers_by policy told told' s new (line_of session (Command.put (Ok i))) (Err refusal) IsLeft (λ l l' e k.
    let due : cond (ltb l.count last_number) (tells (l.count + 1)) (Err Spent) ≡ tells (l.count + 1) = ap (λ b. cond b (tells (l.count + 1)) (Err Spent)) (count_left s l e left) in
    inr (inl (inr ((refusal, refl, may), (Answer.number (l.count + 1), (cond (ltb l.count last_number) (written (state_of l) (Write.put i)) (state_of l), (sym due, refl)))), k, tt)))

pub stopped_refreshes_answer : StoppedRefreshesAnswer
stopped_refreshes_answer policy told told' s new session refusal allowed may = answers_by policy told told' s new (line_of session Command.refresh) (Err refusal) IsLeft (λ l l' e k.
    let due : cond (refuses_refresh (state_of l)) (Err Full) (tells l.count) ≡ tells l.count = ap (λ b. cond b (Err Full) (tells l.count)) (refresh_may s l e allowed) in
    inr (inl (inr ((refusal, refl, may), (Answer.number l.count, (cond (refuses_refresh (state_of l)) (state_of l) (refreshed (state_of l)), (sym due, refl)))), k, tt)))
