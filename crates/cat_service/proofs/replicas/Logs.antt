-- A log is due by the number of writes before it and by its commands alone.
use Rattle.std.proofs.Common.{inl, inr, ◌≡◌, ℕ, ◌+◌, List, [], ◌∷◌, ◌++◌, length, refl, sym, ◌∙◌, ap, subst, arith}
use Rattle.std.specs.Prelude.{Option, None, Some, Result, Ok, Err, true, false, Bool, not, ◌&&◌, IsTrue}
use Rattle.std.specs.List.{filter_map, cons_option}
use Rattle.std.proofs.lemmas.List.{length-append}
use Rattle.cat_base.specs.declared.refusal.Refusal.{Refusal}
use Rattle.cat_base.specs.declared.refusal.Refusal.TheVariants.{Line as NoForm, Spent, Device, Memory}
use Rattle.cat_model.specs.Item.{Item}
use Rattle.cat_model.specs.Text.{Text}
use Rattle.cat_model.specs.Write.{Write}
use Rattle.cat_model.specs.Table.{Start, Opened}
use Rattle.cat_model.specs.Run.{Command, Reply, Exchange, Run, accepted, accepted_by, writes, now, write_reply, may_refuse, Answers, Refuses, Fits, FitsFrom}
use Rattle.cat_model.proofs.Runs.{FitsFrom-split, writes-push, stops_refuse}
use Rattle.cat_service.specs.replicas.Laws.{asks_to_write, is_stop, Logged, logged, log, commands, LogsAreAppliedAlike}

-- ---- what is due

-- the reply that is due to a write after so many
abbrev due_reply : ℕ → Command → Reply
due_reply n (Command.put (Ok i)) = write_reply n
due_reply n (Command.put (Err e)) = Err e
due_reply n (Command.delete (Ok id)) = write_reply n
due_reply n (Command.delete (Err e)) = Err e
due_reply n (Command.delete_where (Ok q)) = write_reply n
due_reply n (Command.delete_where (Err e)) = Err e
due_reply n _ = Err NoForm

-- how many writes the exchange of these adds
abbrev added : Command → Reply → ℕ
added c r = length (cons_option (accepted_by c r) [])

-- the log that is due to the commands after so many writes
abbrev due : ℕ → List Command → List Logged
due n [] = []
due n (c ∷ cs) = record { command = c; reply = due_reply n c } ∷ due (n + added c (due_reply n c)) cs

-- ---- one exchange

put_stopped : (i : Result Item Refusal) (e : Refusal) → IsTrue (may_refuse (Command.put i) e) → is_stop (Err e) ≡ true
put_stopped i Memory m = refl
put_stopped i Spent m = refl
put_stopped i Device m = refl
put_stopped i e m = absurd (cc m)

delete_stopped : (id : Result Text Refusal) (e : Refusal) → IsTrue (may_refuse (Command.delete id) e) → is_stop (Err e) ≡ true
delete_stopped id Memory m = refl
delete_stopped id e m = absurd (cc m)

-- The commands are told apart first, and the refusals of these three alone.
stop_said : (c : Command) (r : Reply) → asks_to_write c ≡ true → Refuses c r → is_stop r ≡ true
stop_said c r h f = ap is_stop f.1 ∙ by c f.0 h f.2
  where
    by : (c : Command) (e : Refusal) → asks_to_write c ≡ true → IsTrue (may_refuse c e) → is_stop (Err e) ≡ true
    by (Command.put i) e h m = put_stopped i e m
    by (Command.delete id) e h m = delete_stopped id e m
    by (Command.delete_where q) e h m = delete_stopped (Err e) e m
    by _ e h m = absurd (cc h)

answer_due : (from : Opened) (past : Run) (s : ℕ) (c : Command) (r : Reply) → asks_to_write c ≡ true → Answers from past s c r → r ≡ due_reply (now from.start past) c
answer_due from past s (Command.put (Ok i)) r h f = f
answer_due from past s (Command.put (Err e)) r h f = f
answer_due from past s (Command.delete (Ok id)) r h f = f
answer_due from past s (Command.delete (Err e)) r h f = f
answer_due from past s (Command.delete_where (Ok q)) r h f = f
answer_due from past s (Command.delete_where (Err e)) r h f = f
answer_due from past s _ r h f = absurd (cc h)

-- a write that wasn't stopped is told what is due
told_due : (from : Opened) (past : Run) (e : Exchange) → Fits from past e → asks_to_write e.line.command ≡ true → is_stop e.reply ≡ false → e.reply ≡ due_reply (now from.start past) e.line.command
told_due from past e (inl f) h k = answer_due from past e.line.session e.line.command e.reply h f
told_due from past e (inr f) h k =
    absurd (let stop : is_stop e.reply ≡ true = stop_said e.line.command e.reply h (stops_refuse from past e.line.session e.line.command e.reply f) in let no : false ≡ true = sym k ∙ stop in cc no)

unlogged : (c : Command) (r : Reply) → (asks_to_write c && not (is_stop r)) ≡ false → accepted_by c r ≡ None
unlogged (Command.put (Ok i)) (Ok a) h = absurd (cc h)
unlogged (Command.delete (Ok id)) (Ok a) h = absurd (cc h)
unlogged (Command.delete_where (Ok q)) (Ok a) h = absurd (cc h)
unlogged _ _ h = refl

pub now-step : (start : Start) (past : Run) (e : Exchange) → now start (past ++ e ∷ []) ≡ now start past + length (cons_option (accepted e) [])
now-step start past e = omega (arith, ap length (writes-push past e), length-append (writes past) (cons_option (accepted e) []))

-- ---- the rest of a run

-- an exchange, with what it adds to the log
abbrev here : Exchange → Logged
here e = record { command = e.line.command; reply = e.reply }

data Adds (e : Exchange) : Type 0 where
  this : logged e ≡ Some (here e) → asks_to_write e.line.command ≡ true → is_stop e.reply ≡ false → Adds e
  none : logged e ≡ None → accepted e ≡ None → Adds e

adds : (e : Exchange) → Adds e
adds e = by (asks_to_write e.line.command) (is_stop e.reply) refl refl
  where
    by : (a b : Bool) → asks_to_write e.line.command ≡ a → is_stop e.reply ≡ b → Adds e
    by true false h k = Adds.this (rw (h, k) refl) h k
    by true true h k = let no : (asks_to_write e.line.command && not (is_stop e.reply)) ≡ false = rw (h, k) refl in Adds.none (rw no refl) (unlogged e.line.command e.reply no)
    by false b h k = let no : (asks_to_write e.line.command && not (is_stop e.reply)) ≡ false = rw h refl in Adds.none (rw no refl) (unlogged e.line.command e.reply no)

-- what stands in the log is due
abbrev IsDue : ℕ → List Logged → Option Logged → Type 0
IsDue n rest o = cons_option o rest ≡ due n (commands (cons_option o rest))

abbrev with_reply : Command → List Logged → Reply → List Logged
with_reply c xs r = record { command = c; reply = r } ∷ xs

pub log_due : (from : Opened) (past run : Run) → FitsFrom from past run → log run ≡ due (now from.start past) (commands (log run))
log_due from past [] f = refl
log_due from past (e ∷ run) f = by (adds e) (log_due from (past ++ e ∷ []) run f.1)
  where
    by : Adds e → log run ≡ due (now from.start (past ++ e ∷ [])) (commands (log run)) → IsDue (now from.start past) (log run) (logged e)
    by (Adds.none left unwritten) rest =
        let same : now from.start (past ++ e ∷ []) ≡ now from.start past = omega (arith, now-step from.start past e, ap (λ o. length (cons_option o [])) unwritten) in
        subst (IsDue (now from.start past) (log run)) (sym left) (rest ∙ ap (λ k. due k (commands (log run))) same)
    by (Adds.this is h k) rest =
        let told : e.reply ≡ due_reply (now from.start past) e.line.command = told_due from past e f.0 h k in
        let next : now from.start (past ++ e ∷ []) ≡ now from.start past + added e.line.command (due_reply (now from.start past) e.line.command) =
        now-step from.start past e ∙ ap (λ r. now from.start past + added e.line.command r) told in
        subst (IsDue (now from.start past) (log run)) (sym is)
        (ap (with_reply e.line.command (log run)) told
        ∙ ap (λ xs. with_reply e.line.command xs (due_reply (now from.start past) e.line.command))
        (rest ∙ ap (λ k. due k (commands (log run))) next))

-- the accepted writes are told by the log
abbrev written_by : Logged → Option Write
written_by x = accepted_by x.command x.reply

writes_logged : (run : Run) → writes run ≡ filter_map written_by (log run)
writes_logged [] = refl
writes_logged (e ∷ run) = by (adds e) (writes_logged run)
  where
    by : Adds e → writes run ≡ filter_map written_by (log run) → cons_option (accepted e) (writes run) ≡ filter_map written_by (cons_option (logged e) (log run))
    by (Adds.none left unwritten) rest = rw (left, unwritten) rest
    by (Adds.this is h k) rest = rw is (ap (cons_option (accepted e)) rest)

pub logs_alike : LogsAreAppliedAlike
logs_alike one two past₁ past₂ run₁ run₂ f₁ f₂ same said =
    let alike : log run₁ ≡ log run₂ =
    log_due one past₁ run₁ (FitsFrom-split one [] past₁ run₁ f₁).1
    ∙ ap (λ n. due n (commands (log run₁))) same
    ∙ ap (due (now two.start past₂)) said
    ∙ sym (log_due two past₂ run₂ (FitsFrom-split two [] past₂ run₂ f₂).1) in
    (alike, writes_logged run₁ ∙ ap (filter_map written_by) alike ∙ sym (writes_logged run₂))
