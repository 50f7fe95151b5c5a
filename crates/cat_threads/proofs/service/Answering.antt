-- What each call of the ledger leaves of the one list.
use Rattle.std.proofs.Common.{◌≡◌, ℕ, ◌+◌, ◌-◌, ◌<◌, true, refl, sym, ap, ◌∙◌, subst, List, [], Option, None, Some}
use Rattle.std.specs.Prelude.{IfOk, OnOk, OnErr, Result, Ok, Err, IsTrue, ◌==◌}
use Rattle.std.specs.List.{list_any}
use Rattle.cat_base.specs.declared.refusal.Refusal.{Refusal}
use Rattle.cat_directory.specs.declared.name.FileName.{FileName}
use Rattle.cat_base.specs.declared.refusal.Refusal.TheVariants.{Memory}
use Rattle.cat_model.specs.Item.{Item, IsItem}
use Rattle.cat_model.specs.Limits.{last_number}
use Rattle.cat_model.specs.Query.{Query}
use Rattle.cat_model.specs.Run.{Command, Reply, accepted_by, is_looked_at, view_tokens_by}
use Rattle.cat_model.specs.State.{has_hold}
use Rattle.cat_model.specs.Text.{Text}
use Rattle.cat_model.specs.View.{View}
use Rattle.cat_model.specs.Write.{Write}
use Rattle.cat_commands.specs.cat_ledger.cat_ledger_state.cat_views.Holds.{HeldView}
use Rattle.cat_ledger_laws.specs.model.Calls.{wrote}
use Rattle.cat_ledger_laws.specs.model.Replies.{IsLeft}
use Rattle.cat_ledger_laws.specs.shape.Ties.{ToldFiles}
use Rattle.cat_commands.specs.cat_ledger.Answering.{AnswersCommand}
use Rattle.cat_commands.specs.cat_ledger.Grants.{IsAsked, token_granted}
use Rattle.cat_commands.specs.cat_ledger.Ledgers.{DoesCall, LedgerOnDevice, device_in, policy_in, shape_in}
use Rattle.cat_commands.specs.cat_ledger.declared.views.Grant.{Grant}
use Rattle.cat_commands.specs.cat_ledger.declared.views.Released.{Released}
use Rattle.cat_ledger_laws.specs.lines.HoldLaws.{holding, letting_go}
use Rattle.cat_ledger_laws.specs.lines.LineLaws.{MayRefresh, Puts, Refreshes, line_of, tells}
use Rattle.cat_ledger_laws.specs.lines.RefusalLaws.{command_of}
use Rattle.cat_ledger_laws.proofs.lines.HoldAnswers.{closes_answer, opens_answer, opens_newest_answer}
use Rattle.cat_ledger_laws.proofs.lines.LineAnswers.{deletes_answer, memory_answers, puts_answer, query_deletes_answer, refreshes_answer}
use Rattle.cat_ledger_laws.proofs.lines.StopAnswers.{nothing_is_left}
use Rattle.cat_threads.specs.history.Rules.{Sight, scribe}
use Rattle.cat_threads.specs.sharing.Grounds.{Ground, Shares}
use Rattle.cat_threads.specs.sharing.Laws.{IsStill}
use Rattle.cat_threads.proofs.sharing.Sharing.{recorded_share, still_share}

looked : (w : Write) (session : ℕ) → IsTrue (is_looked_at session (command_of w))
looked (Write.put i) session = refl
looked (Write.delete id) session = refl
looked (Write.delete_where q) session = refl

refresh_still : IsStill Command.refresh (Err Memory)
refresh_still fitting e = subst (λ r. (accepted_by Command.refresh r ≡ None) × ((held : ℕ → Rattle.std.proofs.Common.Bool) (ts : List ℕ) → view_tokens_by held ts Command.refresh r ≡ ts)) e (refl, λ held ts. refl)

newest_still : (r : Reply) → IsStill Command.open_newest r
newest_still r fitting e = (by fitting, λ held ts. views held ts fitting)
  where
    by : (r : Reply) → accepted_by Command.open_newest r ≡ None
    by r = refl

    views : (held : ℕ → Rattle.std.proofs.Common.Bool) (ts : List ℕ) (r : Reply) → view_tokens_by held ts Command.open_newest r ≡ ts
    views held ts r = refl

open_still : (t : ℕ) (r : Reply) → IsStill (Command.open_at t) r
open_still t r fitting e = (refl, λ held ts. refl)

-- the command that asks for the view of the token, or for the newest one
abbrev pub opening : Option ℕ → ℕ → Command
opening None t = Command.open_newest
opening (Some u) t = Command.open_at t

opening_still : (asked : Option ℕ) (t : ℕ) (r : Reply) → IsStill (opening asked t) r
opening_still None t r = newest_still r
opening_still (Some u) t r = open_still t r

close_still : (t : ℕ) (r : Reply) → IsStill (Command.close t) r
close_still t r fitting e = (refl, λ held ts. refl)

module _ {D : Type 0} (bytes : D → ToldFiles) (old new : LedgerOnDevice D) where
  -- ---- writes

  pub put_answers : (i : Item) (r : Result ℕ Refusal) → IfOk r (λ n. n ≡ (shape_in old).count + 1) → OnOk r (IsItem (shape_in old).schema i)
      → OnOk r ((shape_in old).count < last_number) → OnOk r (DoesCall bytes (Puts i) old new)
      → IfOk r (λ n. (session : ℕ) → AnswersCommand bytes session (Command.put (Ok i)) old (tells n) new)
  put_answers i (Ok n) is item left does = λ session.
      subst (λ m. AnswersCommand bytes session (Command.put (Ok i)) old (tells m) new) (sym is)
      (puts_answer (policy_in old) (bytes (device_in old)) (bytes (device_in new)) (shape_in old) (shape_in new) session i left item does)
  put_answers i (Err e) is item left does = is

  pub delete_answers : (id : Text) (r : Result ℕ Refusal) → IfOk r (λ n. n ≡ (shape_in old).count + 1)
      → OnOk r ((shape_in old).count < last_number) → OnOk r (DoesCall bytes (λ l l'. l' ≡ wrote l (Write.delete id)) old new)
      → IfOk r (λ n. (session : ℕ) → AnswersCommand bytes session (Command.delete (Ok id)) old (tells n) new)
  delete_answers id (Ok n) is left does = λ session.
      subst (λ m. AnswersCommand bytes session (Command.delete (Ok id)) old (tells m) new) (sym is)
      (deletes_answer (policy_in old) (bytes (device_in old)) (bytes (device_in new)) (shape_in old) (shape_in new) session id left does)
  delete_answers id (Err e) is left does = is

  pub delete_where_answers : (q : Query) (r : Result ℕ Refusal) → IfOk r (λ n. n ≡ (shape_in old).count + 1)
      → OnOk r ((shape_in old).count < last_number) → OnOk r (DoesCall bytes (λ l l'. l' ≡ wrote l (Write.delete_where q)) old new)
      → IfOk r (λ n. (session : ℕ) → AnswersCommand bytes session (Command.delete_where (Ok q)) old (tells n) new)
  delete_where_answers q (Ok n) is left does = λ session.
      subst (λ m. AnswersCommand bytes session (Command.delete_where (Ok q)) old (tells m) new) (sym is)
      (query_deletes_answer (policy_in old) (bytes (device_in old)) (bytes (device_in new)) (shape_in old) (shape_in new) session q left does)
  delete_where_answers q (Err e) is left does = is

  pub left_refused : (w : Write) (r : Result ℕ Refusal) → OnErr r (DoesCall bytes IsLeft old new)
      → OnErr r ((session : ℕ) → AnswersCommand bytes session (command_of w) old (Err Memory) new)
  left_refused w (Ok n) left = left
  left_refused w (Err e) left = λ session.
      memory_answers (policy_in old) (bytes (device_in old)) (bytes (device_in new)) (shape_in old) (shape_in new) (line_of session (command_of w)) (looked w session) left

  pub same_refused : (w : Write) (r : Result ℕ Refusal) → OnErr r (new ≡ old)
      → OnErr r ((session : ℕ) → AnswersCommand bytes session (command_of w) old (Err Memory) new)
  same_refused w (Ok n) same = same
  same_refused w (Err e) same = λ session.
      memory_answers (policy_in old) (bytes (device_in old)) (bytes (device_in new)) (shape_in old) (shape_in new) (line_of session (command_of w)) (looked w session)
      (nothing_is_left (bytes (device_in old)) (bytes (device_in new)) (shape_in old) (shape_in new) (ap shape_in same, λ q. ap (λ l. bytes (device_in l) q) same))

  -- ---- views, and rights to them

  pub refresh_answers : (session : ℕ) → MayRefresh (shape_in old) → DoesCall bytes Refreshes old new → AnswersCommand bytes session Command.refresh old (tells (shape_in old).count) new
  refresh_answers session may does = refreshes_answer (policy_in old) (bytes (device_in old)) (bytes (device_in new)) (shape_in old) (shape_in new) session may does

  pub left_answers : (session : ℕ) → DoesCall bytes IsLeft old new → AnswersCommand bytes session Command.refresh old (Err Memory) new
  left_answers session left =
      memory_answers (policy_in old) (bytes (device_in old)) (bytes (device_in new)) (shape_in old) (shape_in new) (line_of session Command.refresh) refl left

  pub quiet_answers : (session : ℕ) → shape_in new ≡ shape_in old → ((q : FileName) → bytes (device_in new) q ≡ bytes (device_in old) q)
      → AnswersCommand bytes session Command.refresh old (Err Memory) new
  quiet_answers session shape files = left_answers session (nothing_is_left (bytes (device_in old)) (bytes (device_in new)) (shape_in old) (shape_in new) (shape, files))

  pub same_answers : (session : ℕ) → new ≡ old → AnswersCommand bytes session Command.refresh old (Err Memory) new
  same_answers session same = quiet_answers session (ap shape_in same) (λ q. ap (λ l. bytes (device_in l) q) same)

  pub open_answers : (session : ℕ) (asked : Option ℕ) (t : ℕ) → IsAsked (shape_in old) asked t → shape_in new ≡ holding session t (shape_in old) → device_in new ≡ device_in old
      → AnswersCommand bytes session (opening asked t) old (tells t) new
  open_answers session None t named held same =
      opens_newest_answer (policy_in old) (bytes (device_in old)) (bytes (device_in new)) (shape_in old) (shape_in new) session t named held (λ q. ap (λ d. bytes d q) same)
  open_answers session (Some u) t named held same =
      opens_answer (policy_in old) (bytes (device_in old)) (bytes (device_in new)) (shape_in old) (shape_in new) session t
      (subst (λ n. list_any (λ (x : View). x.token == n) (shape_in old).views ≡ true) (sym named.0) named.1) held (λ q. ap (λ d. bytes d q) same)

  pub close_answers : (session t : ℕ) → has_hold (shape_in old).holds session t ≡ true → shape_in new ≡ letting_go session t (shape_in old) → device_in new ≡ device_in old
      → AnswersCommand bytes session (Command.close t) old (tells t) new
  close_answers session t had held same =
      closes_answer (policy_in old) (bytes (device_in old)) (bytes (device_in new)) (shape_in old) (shape_in new) session t had held (λ q. ap (λ d. bytes d q) same)

  -- ---- what each call leaves

  module _ (from : Ground) (sessions : List ℕ) (v w : Sight) where
    abbrev Before : Type 0
    Before = Shares (bytes (device_in old)) (shape_in old) from sessions v

    abbrev After : Type 0
    After = Shares (bytes (device_in new)) (shape_in new) from sessions w

    by_still : (session : ℕ) (c : Command) (r : Reply) → Before → IsStill c r → AnswersCommand bytes session c old r new → w ≡ scribe v.list v.token sessions [] → After
    by_still session c r a still answers is =
        still_share (policy_in old) (bytes (device_in old)) (bytes (device_in new)) (shape_in old) (shape_in new) from sessions v w session a c r still answers is

    pub refreshed : (session t : ℕ) → Before → t ≡ (shape_in old).count → MayRefresh (shape_in old) → DoesCall bytes Refreshes old new
        → w ≡ scribe v.list (t - from.start.token) sessions [] → After
    refreshed session t a is may does same =
        recorded_share (policy_in old) (bytes (device_in old)) (bytes (device_in new)) (shape_in old) (shape_in new) from sessions v w session a t is
        (subst (λ m. AnswersCommand bytes session Command.refresh old (tells m) new) (sym is) (refresh_answers session may does)) same

    pub refresh_left : (session : ℕ) → Before → DoesCall bytes IsLeft old new → w ≡ scribe v.list v.token sessions [] → After
    refresh_left session a left is = by_still session Command.refresh (Err Memory) a refresh_still (left_answers session left) is

    pub quiet : Before → shape_in new ≡ shape_in old → ((q : FileName) → bytes (device_in new) q ≡ bytes (device_in old) q) → w ≡ scribe v.list v.token sessions [] → After
    quiet a shape files is = by_still 0 Command.refresh (Err Memory) a refresh_still (quiet_answers 0 shape files) is

    pub unchanged : Before → new ≡ old → w ≡ scribe v.list v.token sessions [] → After
    unchanged a same is = by_still 0 Command.refresh (Err Memory) a refresh_still (same_answers 0 same) is

    pub acquired : (session : ℕ) (asked : Option ℕ) (r : Result Grant Refusal) → Before
        → IfOk r (λ grant. IsAsked (shape_in old) asked (token_granted grant)) → IfOk r (λ grant. shape_in new ≡ holding session (token_granted grant) (shape_in old))
        → OnErr r (new ≡ old) → device_in new ≡ device_in old → w ≡ scribe v.list v.token sessions [] → After
    acquired session asked (Ok grant) a named held err same is =
        let t = token_granted grant in
        by_still session (opening asked t) (tells t) a (opening_still asked t (tells t)) (open_answers session asked t named held same) is
    acquired session asked (Err e) a named held err same is = unchanged a err is

    pub released : (session t : ℕ) (r : Result Released HeldView) → Before
        → OnOk r (has_hold (shape_in old).holds session t ≡ true) → OnOk r (shape_in new ≡ letting_go session t (shape_in old))
        → OnErr r (new ≡ old) → device_in new ≡ device_in old → w ≡ scribe v.list v.token sessions [] → After
    released session t (Ok x) a had held err same is =
        by_still session (Command.close t) (tells t) a (close_still t (tells t)) (close_answers session t had held same) is
    released session t (Err h) a had held err same is = unchanged a err is
