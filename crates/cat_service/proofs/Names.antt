-- Which names of files are told, and which sources.
use Rattle.std.proofs.Common.{◌≡◌, ℕ, List, [], ◌∷◌, map, Bool, true, false, cond, refl, sym, ap, subst, inl, inr}
use Rattle.std.specs.Prelude.{◌==◌, ltb, Option, None, Some, Result, Ok, Err, IfOk, find}
use Rattle.std.specs.List.{flat_map, AllByRecursion}
use Rattle.std.proofs.lemmas.List.Elements.{All-from_recursion, recursion_from_All}
use Rattle.std.proofs.lemmas.List.Sorted.{All-permutation}
use Rattle.cat_base.specs.declared.refusal.Refusal.{Refusal}
use Rattle.cat_base.specs.declared.refusal.Refusal.TheVariants.{Count, Mark, NotFacet, SortField, Spent}
use Rattle.cat_model.specs.Answer.{Found, HasNoLineFeed, Read, answer, can_sort, has_mark, is_facet_kind, query_refusal}
use Rattle.cat_model.specs.CommitFile.{CommitFile, commit_needs}
use Rattle.cat_model.specs.Facets.{Facets, facets_in}
use Rattle.cat_model.specs.Files.{Name, IsFileName, text_of_name}
use Rattle.cat_model.specs.Heard.{IsCommand}
use Rattle.cat_model.specs.Item.{Record, Schema, kind_of}
use Rattle.cat_model.specs.Limits.{last_number, page_limit, snapshot_limit}
use Rattle.cat_model.specs.Lines.{Said}
use Rattle.cat_model.specs.Page.{Page, page_of}
use Rattle.cat_model.specs.Run.{Answer, Command, Reply, found_reply, or_not_held, snapshot_of}
use Rattle.cat_model.specs.Served.{NamesFiles}
use Rattle.cat_model.specs.State.{Halts, has_hold, refuses_refresh, snapshots_in}
use Rattle.cat_model.specs.Text.{Text}
use Rattle.cat_model.specs.View.{View, needs}
use Rattle.cat_items.specs.Reading.{json}
use Rattle.cat_directory.specs.Names.{name_of}
use Rattle.cat_commands.specs.cat_ledger.Answering.{TellsNames}
use Rattle.cat_ledger_laws.proofs.model.Shown.{All-map}
use Rattle.cat_ledger_laws.specs.model.Ledger.{Ledger, names_of_commit, names_of_merging, names_of_portion, names_of_view, state_of}
use Rattle.cat_ledger_laws.specs.model.Calls.{has_recorded, newest_in}
use Rattle.cat_ledger_laws.specs.model.Plans.{MergePolicy}
use Rattle.cat_ledger_laws.specs.model.Replies.{Calls, CarriesOut, FindsNone}
use Rattle.cat_ledger_laws.specs.model.Stored.{FileBytes}
use Rattle.cat_ledger_laws.proofs.model.Users.{Four, All-four}
use Rattle.cat_ledger_laws.proofs.model.Written.{used_may_be_named}
use Rattle.cat_ledger_laws.specs.shape.Shapes.{Shape, names_of_commits, names_of_views}
use Rattle.cat_ledger_laws.specs.shape.Ties.{Carries, ToldFiles}
use Rattle.cat_ledger_laws.proofs.shape.Committed.{commits_named}
use Rattle.cat_ledger_laws.proofs.shape.Leaves.{map_twice, views_named}
use Rattle.cat_ledger_laws.proofs.model.Users.{All-split}
use Rattle.cat_ledger_laws.specs.lines.LineLaws.{line_of}
use Rattle.cat_ledger_laws.proofs.lines.Found.{All-unmap, holds_found}
use Rattle.cat_ledger_laws.specs.lines.ReadLaws.{IsRecordedAs, kept_under}
use Rattle.cat_ledger_laws.specs.lines.RunLaws.{AnswersCarried, ReplyLike}
use Rattle.cat_commands.specs.cat_protocol.replies.Reply.{answer_of, reply_of}
use Rattle.cat_commands.specs.cat_protocol.declared.replies.answer.Answer as code
use Rattle.cat_commands.specs.views.Holding.{said_open}
use Rattle.cat_service.specs.Named.{TellsNeeded, TellsNone}

-- ---- commands that are told no names and no sources

abbrev asks_texts : Command → Bool
asks_texts (Command.files_of_token t) = true
asks_texts (Command.files_of_commit g) = true
asks_texts (Command.read t (Read.get id)) = true
asks_texts _ = false

-- a line asks for names, or for a source
abbrev pub says_texts : Said → Bool
says_texts (Said.files_of_token t) = true
says_texts (Said.files_of_commit g) = true
says_texts (Said.get t id) = true
says_texts _ = false

no_names : (reply : Reply) (other : Reply) → reply ≡ other → TellsNone other → TellsNone reply
no_names reply other is none = subst TellsNone (sym is) none

pub refused : (e : Refusal) → TellsNone (Err e)
refused e = tt

unheld : (o : Option Refusal) → TellsNone (or_not_held o)
unheld None = tt
unheld (Some e) = tt

read : (held : Bool) (x : Result Found Refusal) (o : Option Refusal) → TellsNone (found_reply x) → TellsNone (cond held (found_reply x) (or_not_held o))
read true x o none = none
read false x o none = unheld o

-- a page is told, or a refusal of it
page : (many sorts marked : Bool) (p : Page) → TellsNone (found_reply (cond many (Err Count) (cond sorts (cond marked (Ok (Found.page p)) (Err Mark)) (Err SortField))))
page true sorts marked p = tt
page false true true p = tt
page false true false p = tt
page false false marked p = tt

-- counts are told, or a refusal of them
counts : (facet many : Bool) (f : Facets) → TellsNone (found_reply (cond facet (cond many (Err Count) (Ok (Found.facets f))) (Err NotFacet)))
counts true true f = tt
counts true false f = tt
counts false many f = tt

-- what a read but a GET is told
looked_for : (t : ℕ) (asked : Read) (schema : Schema) (rs : List Record) → asks_texts (Command.read t asked) ≡ false → TellsNone (found_reply (answer schema rs asked))
looked_for t (Read.find n sort mark (Ok q)) schema rs unasked = page (ltb page_limit n) (can_sort schema sort) (has_mark rs mark) (page_of rs q sort mark n)
looked_for t (Read.find n sort mark (Err e)) schema rs unasked = tt
looked_for t (Read.facets dim n (Ok q)) schema rs unasked = counts (is_facet_kind (kind_of schema dim)) (ltb page_limit n) (facets_in rs q dim n)
looked_for t (Read.facets dim n (Err e)) schema rs unasked = tt
looked_for t (Read.get id) schema rs unasked = absurd (let bad : true ≡ false = unasked in cc)

by_either : (b : Bool) (one other : Reply) → TellsNone one → TellsNone other → TellsNone (cond b one other)
by_either true one other t e = t
by_either false one other t e = e

snapped : (taken : ℕ → ℕ) (o : Option ℕ) → TellsNone (snapshot_of taken o)
snapped taken None = tt
snapped taken (Some g) = by_either (ltb (taken g) snapshot_limit) (Ok (Answer.number g)) (Err Spent) tt tt

-- one of two
either : {A B : Type 0} (X : Type 0) (b : Bool) → cond b A B → (A → X) → (B → X) → X
either X true h one other = one h
either X false h one other = other h

module _ (policy : MergePolicy) (l : Ledger) (s : ℕ) (r : Reply) (new : Ledger) where
  carried_out : (c : Command) → asks_texts c ≡ false → CarriesOut policy l s c r new → TellsNone r
  carried_out Command.formless unasked h = no_names r _ h.0 tt
  carried_out (Command.put (Ok i)) unasked h =
      either (TellsNone r) (ltb l.count last_number) h (λ k. no_names r _ k.3 tt) (λ k. no_names r _ k.0 tt)
  carried_out (Command.put (Err e)) unasked h = no_names r _ h.0 tt
  carried_out (Command.delete (Ok id)) unasked h =
      either (TellsNone r) (ltb l.count last_number) h (λ k. no_names r _ k.0 tt) (λ k. no_names r _ k.0 tt)
  carried_out (Command.delete (Err e)) unasked h = no_names r _ h.0 tt
  carried_out (Command.delete_where (Ok q)) unasked h =
      either (TellsNone r) (ltb l.count last_number) h (λ k. no_names r _ k.0 tt) (λ k. no_names r _ k.0 tt)
  carried_out (Command.delete_where (Err e)) unasked h = no_names r _ h.0 tt
  carried_out Command.refresh unasked h = either (TellsNone r) (refuses_refresh (state_of l)) h (λ k. no_names r _ k.0 tt) (λ k. no_names r _ k.3 tt)
  carried_out Command.open_newest unasked h = no_names r _ h.0 tt
  carried_out (Command.open_at t) unasked h = either (TellsNone r) (has_recorded l.views t) h (λ k. no_names r _ k.0 tt) (λ k. no_names r _ k.0 tt)
  carried_out (Command.close t) unasked h = either (TellsNone r) (has_hold l.holds s t) h (λ k. no_names r _ k.0 tt) (λ k. no_names r _ k.0 tt)
  carried_out (Command.read t asked) unasked h = no_names r _ h.0 (read _ (answer l.schema _ asked) (query_refusal asked) (looked_for t asked l.schema _ unasked))
  carried_out (Command.chore c) unasked h = either (TellsNone r) (s == 0) h (λ k. no_names r _ k.1 tt) (λ k. no_names r _ k.0 tt)
  carried_out (Command.prune n) unasked h = no_names r _ h.0 tt
  carried_out (Command.commit (Err e)) unasked h = no_names r _ h.0 tt
  carried_out (Command.commit (Ok text)) unasked h = no_names r _ h.3 tt
  carried_out Command.snapshot unasked h = no_names r _ h.0 (snapped (snapshots_in l.taken) (newest_in l.commits))
  carried_out (Command.release_snapshot g) unasked h = either (TellsNone r) (ltb 0 (snapshots_in l.taken g)) h (λ k. no_names r _ k.0 tt) (λ k. no_names r _ k.0 tt)
  carried_out (Command.text_of_commit g) unasked h = no_names r _ h.0 (by_either _ (Ok (Answer.commit_text _)) (Err _) tt tt)
  carried_out (Command.files_of_token t) unasked h = absurd (let bad : true ≡ false = unasked in cc)
  carried_out (Command.files_of_commit g) unasked h = absurd (let bad : true ≡ false = unasked in cc)

  halted : (c : Command) → Halts l.schema (state_of l) s c r → TellsNone r
  halted c (inl h) = no_names r _ h.0 tt
  halted c (inr h) = no_names r _ h.0.1 tt

  found_none : (c : Command) → FindsNone l c r new → TellsNone r
  found_none (Command.commit (Ok text)) h = no_names r _ h.0 tt
  found_none (Command.commit (Err e)) h = absurd h
  found_none Command.formless h = absurd h
  found_none (Command.put i) h = absurd h
  found_none (Command.delete i) h = absurd h
  found_none (Command.delete_where i) h = absurd h
  found_none Command.refresh h = absurd h
  found_none Command.open_newest h = absurd h
  found_none (Command.open_at t) h = absurd h
  found_none (Command.close t) h = absurd h
  found_none (Command.read t asked) h = absurd h
  found_none (Command.prune n) h = absurd h
  found_none Command.snapshot h = absurd h
  found_none (Command.release_snapshot g) h = absurd h
  found_none (Command.files_of_token t) h = absurd h
  found_none (Command.files_of_commit g) h = absurd h
  found_none (Command.text_of_commit g) h = absurd h
  found_none (Command.chore c) h = absurd h

  called : (c : Command) → asks_texts c ≡ false → Calls policy l (line_of s c) r new → TellsNone r
  called c unasked (inl h) = carried_out c unasked h
  called c unasked (inr (inl h)) = halted c h.0
  called c unasked (inr (inr h)) = found_none c h

-- a reply like one without names and sources has none
alike : (reply other : Reply) → ReplyLike reply other → TellsNone other → TellsNone reply
alike (Ok (Answer.number n)) other h none = no_names (Ok (Answer.number n)) other h none
alike (Ok (Answer.found (Found.page p))) other h none = no_names (Ok (Answer.found (Found.page p))) other h none
alike (Ok (Answer.found (Found.facets f))) other h none = no_names (Ok (Answer.found (Found.facets f))) other h none
alike (Ok (Answer.found (Found.source None))) other h none = no_names (Ok (Answer.found (Found.source None))) other h none
alike (Ok (Answer.found (Found.source (Some text)))) (Ok (Answer.found (Found.source stored))) h none = absurd none
alike (Ok (Answer.found (Found.source (Some text)))) (Ok (Answer.found (Found.page p))) h none = no_names _ (Ok (Answer.found (Found.page p))) h none
alike (Ok (Answer.found (Found.source (Some text)))) (Ok (Answer.found (Found.facets f))) h none = no_names _ (Ok (Answer.found (Found.facets f))) h none
alike (Ok (Answer.found (Found.source (Some text)))) (Ok (Answer.number n)) h none = no_names _ (Ok (Answer.number n)) h none
alike (Ok (Answer.found (Found.source (Some text)))) (Ok (Answer.names ns)) h none = absurd none
alike (Ok (Answer.found (Found.source (Some text)))) (Ok (Answer.commit_text t)) h none = no_names _ (Ok (Answer.commit_text t)) h none
alike (Ok (Answer.found (Found.source (Some text)))) (Ok (Answer.news n)) h none = no_names _ (Ok (Answer.news n)) h none
alike (Ok (Answer.found (Found.source (Some text)))) (Err e) h none = no_names _ (Err e) h none
alike (Ok (Answer.names ns)) other h none = no_names (Ok (Answer.names ns)) other h none
alike (Ok (Answer.commit_text t)) other h none = no_names (Ok (Answer.commit_text t)) other h none
alike (Ok (Answer.news n)) other h none = no_names (Ok (Answer.news n)) other h none
alike (Err e) other h none = tt

-- what is answered to a command that asks for none has none
answered : (policy : MergePolicy) (told told' : ToldFiles) (s new : Shape) (session : ℕ) (c : Command) (reply : Reply) (l : Ledger) (files : FileBytes)
    → Carries told s l files → asks_texts c ≡ false → AnswersCarried policy told s (line_of session c) reply told' new → TellsNone reply
answered policy told told' s new session c reply l files carries unasked answers =
    let k = answers l files carries in alike reply k.2 k.3.alike (called policy l session k.2 k.0 c unasked k.4)

-- what is said that asks for none is a command that asks for none
asked_none : (schema : Schema) (said : Said) (c : Command) → IsCommand json schema said c → says_texts said ≡ false → asks_texts c ≡ false
asked_none schema (Said.put text) c is k = ap asks_texts is
asked_none schema (Said.delete text) c is k = ap asks_texts is
asked_none schema (Said.delete_where text) c is k = ap asks_texts is.2
asked_none schema Said.refresh c is k = ap asks_texts is
asked_none schema Said.open_newest c is k = ap asks_texts is
asked_none schema (Said.open_at t) c is k = ap asks_texts is
asked_none schema (Said.close t) c is k = ap asks_texts is
asked_none schema (Said.find t n sort mark text) c is k = ap asks_texts is.2
asked_none schema (Said.facets t dim n text) c is k = ap asks_texts is.2
asked_none schema (Said.get t text) c is k = absurd (let no : true ≡ false = k in cc)
asked_none schema (Said.files_of_token t) c is k = absurd (let no : true ≡ false = k in cc)
asked_none schema (Said.files_of_commit g) c is k = absurd (let no : true ≡ false = k in cc)
asked_none schema (Said.commit text) c is k = ap asks_texts is
asked_none schema (Said.text_of_commit g) c is k = ap asks_texts is
asked_none schema Said.snapshot c is k = ap asks_texts is
asked_none schema (Said.release_snapshot g) c is k = ap asks_texts is
asked_none schema (Said.prune n) c is k = ap asks_texts is
asked_none schema (Said.chore what) c is k = ap asks_texts is

-- so it tells what is needed: none
needs_none : (s : Shape) (said : Said) (reply : Reply) → says_texts said ≡ false → TellsNone reply → TellsNeeded s (Some said) reply
needs_none s (Said.put text) reply k h = h
needs_none s (Said.delete text) reply k h = h
needs_none s (Said.delete_where text) reply k h = h
needs_none s Said.refresh reply k h = h
needs_none s Said.open_newest reply k h = h
needs_none s (Said.open_at t) reply k h = h
needs_none s (Said.close t) reply k h = h
needs_none s (Said.find t n sort mark text) reply k h = h
needs_none s (Said.facets t dim n text) reply k h = h
needs_none s (Said.get t text) reply k h = absurd (let no : true ≡ false = k in cc)
needs_none s (Said.files_of_token t) reply k h = absurd (let no : true ≡ false = k in cc)
needs_none s (Said.files_of_commit g) reply k h = absurd (let no : true ≡ false = k in cc)
needs_none s (Said.commit text) reply k h = h
needs_none s (Said.text_of_commit g) reply k h = h
needs_none s Said.snapshot reply k h = h
needs_none s (Said.release_snapshot g) reply k h = h
needs_none s (Said.prune n) reply k h = h
needs_none s (Said.chore what) reply k h = h

-- a line that asks for none is told none
pub told_none : (policy : MergePolicy) (told told' : ToldFiles) (s new : Shape) (session : ℕ) (said : Said) (c : Command) (reply : Reply) (l : Ledger)
    (files : FileBytes) → Carries told s l files → IsCommand json s.schema said c → AnswersCarried policy told s (line_of session c) reply told' new
    → says_texts said ≡ false → TellsNeeded s (Some said) reply
told_none policy told told' s new session said c reply l files carries is answers none =
    needs_none s said reply none (answered policy told told' s new session c reply l files carries (asked_none s.schema said c is none) answers)

-- an OPEN asks for none
pub opens_say_none : (token : Option ℕ) → says_texts (said_open token) ≡ false
opens_say_none None = refl
opens_say_none (Some t) = refl

-- what is told to a FILES of a token, and to one of a commit
pub files_of_token_told : (s : Shape) (t : ℕ) (result : Result code.Answer Refusal)
    → IfOk result (λ a. (view : View) × IsRecordedAs s.views t view × TellsNames (needs view) (answer_of a))
    → TellsNeeded s (Some (Said.files_of_token t)) (reply_of result)
files_of_token_told s t (Ok a) h = h
files_of_token_told s t (Err e) h = tt

pub files_of_commit_told : (s : Shape) (g : ℕ) (result : Result code.Answer Refusal)
    → IfOk result (λ a. (c : CommitFile) × (kept_under s.commits g ≡ Some c) × TellsNames (commit_needs c) (answer_of a))
    → TellsNeeded s (Some (Said.files_of_commit g)) (reply_of result)
files_of_commit_told s g (Ok a) h = h
files_of_commit_told s g (Err e) h = tt

-- what is told to a GET
pub source_told : (s : Shape) (t : ℕ) (id : Text) (result : Result code.Answer Refusal)
    → IfOk result (λ a. (stored : Option Text) × (answer_of a ≡ Answer.found (Found.source stored)) × HasNoLineFeed stored)
    → TellsNeeded s (Some (Said.get t id)) (reply_of result)
source_told s t id (Ok a) h = h
source_told s t id (Err e) h = tt

-- ---- names that are told are those of files, and sources have no line feed

-- what all names of a list have, those of each have
names_have : {X : Type 0} (P : Name → Type 0) (names : X → List Name) (xs : List X) → AllByRecursion P (flat_map names xs)
    → AllByRecursion (λ x. AllByRecursion P (names x)) xs
names_have P names [] all = tt
names_have P names (x ∷ xs) all =
    let parts = All-split P (names x) (flat_map names xs) all in (parts.0, names_have P names xs parts.1)

-- and so have those of one that is found
found_has : {X : Type 0} (P : Name → Type 0) (names : X → List Name) (test : X → Bool) (xs : List X) (x : X) → find test xs ≡ Some x
    → AllByRecursion P (flat_map names xs) → AllByRecursion P (names x)
found_has P names test xs x is all = holds_found (λ x. AllByRecursion P (names x)) test xs x (names_have P names xs all) is

-- names that are told in byte order are those of files, if the needed ones are
sorted_told : (needed : List Name) → AllByRecursion IsFileName needed → (a : Answer) → TellsNames needed a → NamesFiles (Ok a)
sorted_told needed formed a tells =
    let of_listed : AllByRecursion (λ q. IsFileName (name_of q)) tells.listed =
    All-unmap IsFileName name_of tells.listed (subst (AllByRecursion IsFileName) (sym tells.all) formed) in
    let of_names : AllByRecursion (λ q. IsFileName (name_of q)) tells.names =
    recursion_from_All (λ q. IsFileName (name_of q)) tells.names
    (All-permutation (λ q. IsFileName (name_of q)) tells.listed tells.names tells.same (All-from_recursion (λ q. IsFileName (name_of q)) tells.listed of_listed)) in
    subst (λ a. NamesFiles (Ok a)) (sym tells.texts) (
      map name_of tells.names,
      All-map IsFileName name_of tells.names of_names,
      sym (map_twice name_of text_of_name tells.names),
    )

module _ (told : ToldFiles) (s : Shape) (l : Ledger) (files : FileBytes) (carries : Carries told s l files) where
  four : Four IsFileName (flat_map names_of_portion l.portions) (flat_map names_of_view l.views) (flat_map names_of_commit l.commits) (names_of_merging l.merging)
  four =
      All-four IsFileName (flat_map names_of_portion l.portions) (flat_map names_of_view l.views) (flat_map names_of_commit l.commits)
      (names_of_merging l.merging) (used_may_be_named l carries.sound)

  views_formed : AllByRecursion IsFileName (names_of_views s.views)
  views_formed =
      subst (λ (x : Shape). AllByRecursion IsFileName (names_of_views x.views)) carries.shape
      (subst (λ ns. AllByRecursion IsFileName ns) (sym (views_named l.schema l.views)) four.views)

  commits_formed : AllByRecursion IsFileName (names_of_commits s.commits)
  commits_formed =
      subst (λ (x : Shape). AllByRecursion IsFileName (names_of_commits x.commits)) carries.shape
      (subst (λ ns. AllByRecursion IsFileName ns) (sym (commits_named l.schema l.commits)) four.commits)

  view_told : (t : ℕ) (view : View) → IsRecordedAs s.views t view → (a : Answer) → TellsNames (needs view) a → NamesFiles (Ok a)
  view_told t view is a tells =
      sorted_told (needs view) (found_has IsFileName needs (λ v. v.token == t) s.views view is views_formed) a tells

  commit_told : (g : ℕ) (commit : CommitFile) → kept_under s.commits g ≡ Some commit → (a : Answer) → TellsNames (commit_needs commit) a
      → NamesFiles (Ok a)
  commit_told g commit is a tells =
      sorted_told (commit_needs commit) (found_has IsFileName commit_needs (λ c. c.generation == g) s.commits commit is commits_formed) a tells

  none_told : (reply : Reply) → TellsNone reply → NamesFiles reply
  none_told (Ok (Answer.number n)) h = tt
  none_told (Ok (Answer.found (Found.page p))) h = tt
  none_told (Ok (Answer.found (Found.facets f))) h = tt
  none_told (Ok (Answer.found (Found.source stored))) h = absurd h
  none_told (Ok (Answer.names ns)) h = absurd h
  none_told (Ok (Answer.commit_text t)) h = tt
  none_told (Ok (Answer.news n)) h = tt
  none_told (Err e) h = tt

  -- the names that are told are those of files, and the source has no line feed
  pub names_files : (said : Option Said) (reply : Reply) → TellsNeeded s said reply → NamesFiles reply
  names_files None reply h = none_told reply h
  names_files (Some (Said.files_of_token t)) (Ok a) h = view_told t h.0 h.1 a h.2
  names_files (Some (Said.files_of_token t)) (Err e) h = tt
  names_files (Some (Said.files_of_commit g)) (Ok a) h = commit_told g h.0 h.1 a h.2
  names_files (Some (Said.files_of_commit g)) (Err e) h = tt
  names_files (Some (Said.put text)) reply h = none_told reply h
  names_files (Some (Said.delete text)) reply h = none_told reply h
  names_files (Some (Said.delete_where text)) reply h = none_told reply h
  names_files (Some Said.refresh) reply h = none_told reply h
  names_files (Some Said.open_newest) reply h = none_told reply h
  names_files (Some (Said.open_at t)) reply h = none_told reply h
  names_files (Some (Said.close t)) reply h = none_told reply h
  names_files (Some (Said.find t n sort mark text)) reply h = none_told reply h
  names_files (Some (Said.facets t dim n text)) reply h = none_told reply h
  names_files (Some (Said.get t text)) (Ok a) h = subst (λ a. NamesFiles (Ok a)) (sym h.1) h.2
  names_files (Some (Said.get t text)) (Err e) h = tt
  names_files (Some (Said.commit text)) reply h = none_told reply h
  names_files (Some (Said.text_of_commit g)) reply h = none_told reply h
  names_files (Some Said.snapshot) reply h = none_told reply h
  names_files (Some (Said.release_snapshot g)) reply h = none_told reply h
  names_files (Some (Said.prune n)) reply h = none_told reply h
  names_files (Some (Said.chore what)) reply h = none_told reply h
