-- Which commands a run tells that the device failed: those that may be told so.
use Rattle.std.proofs.Common.{◌≡◌, ◌≢◌, Bool, true, false, cond, ltb, Option, Some, None, refl, sym, subst, inl, inr}
use Rattle.std.specs.Prelude.{ℕ, ◌+◌, ◌-◌, List, Result, Ok, Err, IsTrue, ◌==◌, length}
use Rattle.cat_base.specs.declared.refusal.Refusal.{Refusal}
use Rattle.cat_base.specs.declared.refusal.Refusal.TheVariants.{Count, Device, Id, NoCommit, Line, NoSnapshot, NotFacet, NotHeld, Gone, Mark, SortField, Spent}
use Rattle.cat_model.specs.Text.{Text}
use Rattle.cat_model.specs.Item.{Schema, kind_of, is_id}
use Rattle.cat_model.specs.Query.{Query}
use Rattle.cat_model.specs.Limits.{last_number, page_limit, snapshot_limit}
use Rattle.cat_model.specs.Page.{page_of}
use Rattle.cat_model.specs.Facets.{facets_in}
use Rattle.cat_model.specs.Answer.{Read, Found, can_sort, has_mark, is_facet_kind}
use Rattle.cat_model.specs.Table.{Opened, table}
use Rattle.cat_model.specs.Run.{Answer, Answers, Command, Fits, News, Refuses, Reply, Run, commits, found_reply, greatest, has, holds, is_held, is_kept, may_refuse, may_tell, newest_commit, now, pruned, snapshot_of, snapshots, text_under, view_tokens, writes}
use Rattle.cat_model.specs.Heard.{IsCommand, IsQueryOf, Json}
use Rattle.cat_model.specs.Lines.{Said}
use Rattle.cat_model.proofs.Runs.{stops_refuse}

-- the reply of one whose device failed
abbrev failed : Reply
failed = Err Device

-- what is wrong with the command's text isn't that the device failed
abbrev pub HasNoDevice : Command → Type 0
HasNoDevice (Command.delete (Err e)) = e ≢ Device
HasNoDevice (Command.delete_where (Err e)) = e ≢ Device
HasNoDevice (Command.read t (Read.find n sort mark (Err e))) = e ≢ Device
HasNoDevice (Command.read t (Read.facets dim n (Err e))) = e ≢ Device
HasNoDevice c = Unit {0}

same_refusal : (a b : Refusal) → ◌≡◌ {A = Reply} (Err a) (Err b) → b ≡ a
same_refusal a b is = cc

no_answer : (a : Answer) → failed ≡ Ok a → ⊥
no_answer a is = cc

other_refusal : (e : Refusal) → e ≢ Device → failed ≡ Err e → ⊥
other_refusal e other is = other (same_refusal Device e is)

-- an answer or another refusal
neither : (b : Bool) (a : Answer) (e : Refusal) → e ≢ Device → failed ≡ cond b (Ok a) (Err e) → ⊥
neither true a e other is = no_answer a is
neither false a e other is = other_refusal e other is

-- ---- what is said is a command without it

of_id : (text : Text) (b : Bool) → is_id text ≡ b → HasNoDevice (Command.delete (cond b (Ok text) (Err Id)))
of_id text true is = tt
of_id text false is = λ no. cc

of_query : {schema : Schema} {text : Text} (q : Result Query Refusal) → IsQueryOf schema text q → HasNoDevice (Command.delete_where q)
of_query (Ok q) is = tt
of_query (Err e) (IsQueryOf.faulty place fault) = λ no. cc

pub said_no_device : (json : Json) (schema : Schema) (said : Said) (c : Command) → IsCommand json schema said c → HasNoDevice c
said_no_device json schema (Said.put text) c is = subst HasNoDevice (sym is) tt
said_no_device json schema (Said.delete text) c is = subst HasNoDevice (sym is) (of_id text (is_id text) refl)
said_no_device json schema (Said.delete_where text) c is = subst HasNoDevice (sym is.2) (of_query is.0 is.1)
said_no_device json schema Said.refresh c is = subst HasNoDevice (sym is) tt
said_no_device json schema Said.open_newest c is = subst HasNoDevice (sym is) tt
said_no_device json schema (Said.open_at t) c is = subst HasNoDevice (sym is) tt
said_no_device json schema (Said.close t) c is = subst HasNoDevice (sym is) tt
said_no_device json schema (Said.find t n sort mark text) c is = subst HasNoDevice (sym is.2) (found is.0 is.1)
  where
    found : (q : Result Query Refusal) → IsQueryOf schema text q → HasNoDevice (Command.read t (Read.find n sort mark q))
    found (Ok q) is = tt
    found (Err e) (IsQueryOf.faulty place fault) = λ no. cc
said_no_device json schema (Said.facets t dim n text) c is = subst HasNoDevice (sym is.2) (counted is.0 is.1)
  where
    counted : (q : Result Query Refusal) → IsQueryOf schema text q → HasNoDevice (Command.read t (Read.facets dim n q))
    counted (Ok q) is = tt
    counted (Err e) (IsQueryOf.faulty place fault) = λ no. cc
said_no_device json schema (Said.get t text) c is = subst HasNoDevice (sym is) tt
said_no_device json schema (Said.files_of_token t) c is = subst HasNoDevice (sym is) tt
said_no_device json schema (Said.files_of_commit g) c is = subst HasNoDevice (sym is) tt
said_no_device json schema (Said.commit text) c is = subst HasNoDevice (sym is) tt
said_no_device json schema (Said.text_of_commit g) c is = subst HasNoDevice (sym is) tt
said_no_device json schema Said.snapshot c is = subst HasNoDevice (sym is) tt
said_no_device json schema (Said.release_snapshot g) c is = subst HasNoDevice (sym is) tt
said_no_device json schema (Said.prune n) c is = subst HasNoDevice (sym is) tt
said_no_device json schema (Said.chore what) c is = subst HasNoDevice (sym is) tt

-- ---- no other command is answered so

page_no_device : (held many sorts marks : Bool) (p : Found)
    → failed ≡ cond held (found_reply (cond many (Err Count) (cond sorts (cond marks (Ok p) (Err Mark)) (Err SortField)))) (Err NotHeld) → ⊥
page_no_device false many sorts marks p is = cc
page_no_device true true sorts marks p is = cc
page_no_device true false false marks p is = cc
page_no_device true false true false p is = cc
page_no_device true false true true p is = cc

counts_no_device : (held facet many : Bool) (f : Found)
    → failed ≡ cond held (found_reply (cond facet (cond many (Err Count) (Ok f)) (Err NotFacet))) (Err NotHeld) → ⊥
counts_no_device false facet many f is = cc
counts_no_device true false many f is = cc
counts_no_device true true true f is = cc
counts_no_device true true false f is = cc

wrong_no_device : (held : Bool) (e : Refusal) → e ≢ Device → failed ≡ cond held (Err e) (Err e) → ⊥
wrong_no_device true e other is = other_refusal e other is
wrong_no_device false e other is = other_refusal e other is

snapshot_no_device : (taken : ℕ → ℕ) (newest : Option ℕ) → failed ≡ snapshot_of taken newest → ⊥
snapshot_no_device taken None is = cc
snapshot_no_device taken (Some g) is = neither (ltb (taken g) snapshot_limit) (Answer.number g) Spent (λ no. cc) is

names_no_device : (b : Bool) (e : Refusal) → e ≢ Device → cond b ((ns : List Text) × (failed ≡ Ok (Answer.names ns))) (failed ≡ Err e) → ⊥
names_no_device true e other is = no_answer (Answer.names is.0) is.1
names_no_device false e other is = other_refusal e other is

module _ (from : Opened) (past : Run) (s : ℕ) where
  answers_no_device : (c : Command) → HasNoDevice c → Answers from past s c failed → IsTrue (may_refuse c Device)
  answers_no_device Command.formless form is = absurd (let no : failed ≡ Err Line = is in cc)
  answers_no_device (Command.put item) form is = refl
  answers_no_device (Command.delete (Ok id)) form is =
      absurd (neither (ltb (now from.start past) last_number) (Answer.number (now from.start past + 1)) Spent (λ no. cc) is)
  answers_no_device (Command.delete (Err e)) form is = absurd (other_refusal e form is)
  answers_no_device (Command.delete_where (Ok q)) form is =
      absurd (neither (ltb (now from.start past) last_number) (Answer.number (now from.start past + 1)) Spent (λ no. cc) is)
  answers_no_device (Command.delete_where (Err e)) form is = absurd (other_refusal e form is)
  answers_no_device Command.refresh form is = refl
  answers_no_device Command.open_newest form is = absurd (no_answer (Answer.number (greatest (view_tokens from.start past))) is)
  answers_no_device (Command.open_at t) form is = absurd (neither (has (view_tokens from.start past) t) (Answer.number t) Gone (λ no. cc) is)
  answers_no_device (Command.close t) form is = absurd (neither (holds s t past) (Answer.number t) NotHeld (λ no. cc) is)
  answers_no_device (Command.read t (Read.find n sort mark (Ok q))) form is =
      let rs = table from.start (writes past) t in
      absurd (page_no_device (holds s t past) (ltb page_limit n) (can_sort from.start.schema sort) (has_mark rs mark) (Found.page (page_of rs q sort mark n)) is)
  answers_no_device (Command.read t (Read.find n sort mark (Err e))) form is = absurd (wrong_no_device (holds s t past) e form is)
  answers_no_device (Command.read t (Read.facets dim n (Ok q))) form is =
      absurd (counts_no_device (holds s t past) (is_facet_kind (kind_of from.start.schema dim)) (ltb page_limit n)
      (Found.facets (facets_in (table from.start (writes past) t) q dim n)) is)
  answers_no_device (Command.read t (Read.facets dim n (Err e))) form is = absurd (wrong_no_device (holds s t past) e form is)
  answers_no_device (Command.read t (Read.get id)) form is = refl
  answers_no_device (Command.prune n) form is =
      absurd (no_answer (Answer.number (length (view_tokens from.start past) - length (pruned (is_held past) n (view_tokens from.start past)))) is)
  answers_no_device (Command.commit text) form is = refl
  answers_no_device Command.snapshot form is = absurd (snapshot_no_device (snapshots past) (newest_commit from past) is)
  answers_no_device (Command.release_snapshot g) form is =
      absurd (neither (ltb 0 (snapshots past g)) (Answer.number (snapshots past g - 1)) NoSnapshot (λ no. cc) is)
  answers_no_device (Command.files_of_token t) form is = absurd (names_no_device (holds s t past) NotHeld (λ no. cc) is)
  answers_no_device (Command.files_of_commit g) form is = absurd (names_no_device (is_kept from past g) NoCommit (λ no. cc) is)
  answers_no_device (Command.text_of_commit g) form is =
      absurd (neither (is_kept from past g) (Answer.commit_text (text_under (commits from past) g)) NoCommit (λ no. cc) is)
  answers_no_device (Command.chore what) form is = absurd (by (s == 0) is)
    where
      by : (b : Bool) → cond b ((n : News) × (failed ≡ Ok (Answer.news n)) × IsTrue (may_tell what n)) (failed ≡ Err Line) → ⊥
      by true told = no_answer (Answer.news told.0) told.1
      by false told = cc

  -- A run tells a command that the device failed only where it may refuse so.
  pub device_told : (c : Command) → HasNoDevice c → Fits from past (record { line = record { session = s; command = c }; reply = failed })
      → IsTrue (may_refuse c Device)
  device_told c form (inl answered) = answers_no_device c form answered
  device_told c form (inr stopped) =
      let refused : Refuses c failed = stops_refuse from past s c failed stopped in
      subst (λ e. IsTrue (may_refuse c e)) (same_refusal Device refused.0 refused.1) refused.2
