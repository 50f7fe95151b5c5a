-- What a service wrote is one talk, which shows its run.
use Rattle.std.proofs.Common.{inl, inr, ◌≡◌, ◌≢◌, ℕ, List, [], ◌∷◌, ◌++◌, map, refl, sym, ◌∙◌, ap, subst, append_assoc, arith, codes}
use Rattle.std.specs.Prelude.{Option, None, Some, Result, Ok, filter_map, option_to_list}
use Rattle.cat_base.specs.declared.refusal.Refusal.{Refusal}
use Rattle.std.specs.List.{flat_map, cons_option, AllByRecursion}
use Rattle.std.specs.Option.{option_map_or}
use Rattle.std.specs.Fmt.{decimal}
use Rattle.cat_model.specs.Text.{Text, IsOneLine}
use Rattle.cat_model.specs.Item.{Schema, IsSchema}
use Rattle.cat_model.specs.Write.{Write}
use Rattle.cat_model.specs.Table.{Opened, CommitText}
use Rattle.cat_model.specs.Lines.{Said, spaced, spelling, line_text}
use Rattle.cat_model.specs.Run.{Command, Answer, Reply, Exchange, Run, accepted, accepted_by, writes, commit_by, commits, Fits, FitsFrom, IsRun}
use Rattle.cat_model.specs.Heard.{Json, Hears, IsCommand, commit_text_of}
use Rattle.cat_model.specs.Served.{Outcome, heard, exchange, outcome_text, NamesFiles, TellsFiles}
use Rattle.cat_model.specs.Told.{DirectoryKind, TellsAlways}
use Rattle.cat_model.specs.Serving.{IsServedIn}
use Rattle.cat_model.specs.Talk.{Pair, IsReply, IsTalk, ReadsLines, HasShownText, IsShownOpened, AreAnswered, AnswersOfAnyStartAreTalks}
use Rattle.cat_model.proofs.Lists.{All-both}
use Rattle.cat_model.proofs.Runs.{writes-push}
use Rattle.cat_model.proofs.TalkCuts.{same_line, talks_same}
use Rattle.cat_model.proofs.TalkDigits.{decimal_one_line}
use Rattle.cat_model.proofs.TalkHeard.{Entry, pair, run_of, Heeded, entries, heeded, entries_lines, entries_replies, entries_run, heard_line}
use Rattle.cat_model.proofs.TalkWrites.{Makes, asks}
use Rattle.cat_model.proofs.TalkLines.{Shown, is_reply, unreadable_is_reply}
use Rattle.cat_model.proofs.Commits.{commits-push}
use Rattle.cat_model.proofs.TalkShown.{ShownRecord, ShownWrite, ShownText, text_line, reply_shown, formless_shown}
use Rattle.cat_model.proofs.TalkHolds.{all_split}

-- what was told is shown in lines
abbrev pub ShownTold : Outcome → Type 0
ShownTold Outcome.unreadable = Unit {0}
ShownTold (Outcome.replied x) = Shown x.reply

told_is_reply : (told : Outcome) → ShownTold told → IsReply (outcome_text told)
told_is_reply Outcome.unreadable a = unreadable_is_reply
told_is_reply (Outcome.replied x) a = is_reply x.line.session x.reply a

replies_of : (es : List Entry) → AllByRecursion (λ e. ShownTold e.told) es → AllByRecursion (λ p. IsReply p.reply) (map pair es)
replies_of [] a = tt
replies_of (e ∷ es) a = (told_is_reply e.told a.0, replies_of es a.1)

-- what was opened is shown, and the texts of its commits
opened_texts : (from : Opened) → HasShownText from.commit → AllByRecursion ShownText (commits from [])
opened_texts from a = by from.commit a
  where
    by : (o : Option CommitText) → HasShownText o → AllByRecursion ShownText (option_to_list o ++ [])
    by None a = tt
    by (Some c) a = (a, tt)

-- a COMMIT that made a commit
record IsCommitted (c : Command) (k : CommitText) : Type 0 where
  command : c ≡ Command.commit (Ok k.text)

committed_by : (c : Command) (r : Reply) (k : CommitText) → commit_by c r ≡ Some k → IsCommitted c k
committed_by (Command.commit (Ok text)) (Ok (Answer.number g)) k e =
    let same : text ≡ k.text = ap (λ o. option_map_or (λ (c : CommitText). c.text) o []) e in
    record { command = ap (λ t. Command.commit (Ok t)) same }
committed_by _ _ k e = absurd (cc e)

ok_text : (r s : Result Text Refusal) → Command.commit r ≡ Command.commit s → r ≡ s
ok_text r s e = cc e

-- its text, of a line that says it
says_text : (json : Json) (schema : Schema) (said : Said) (t : Text) → IsCommand json schema said (Command.commit (Ok t)) → IsOneLine t
says_text json schema (Said.commit text) t is = text_line text t (sym (ok_text (Ok t) (commit_text_of text) is))
says_text json schema (Said.put text) t is = absurd (cc is)
says_text json schema (Said.delete text) t is = absurd (cc is)
says_text json schema (Said.delete_where text) t is = let e = is.2 in absurd (cc e)
says_text json schema Said.refresh t is = absurd (cc is)
says_text json schema Said.open_newest t is = absurd (cc is)
says_text json schema (Said.open_at u) t is = absurd (cc is)
says_text json schema (Said.close u) t is = absurd (cc is)
says_text json schema (Said.find u n sort mark text) t is = let e = is.2 in absurd (cc e)
says_text json schema (Said.facets u dim n text) t is = let e = is.2 in absurd (cc e)
says_text json schema (Said.get u text) t is = absurd (cc is)
says_text json schema (Said.files_of_token u) t is = absurd (cc is)
says_text json schema (Said.files_of_commit g) t is = absurd (cc is)
says_text json schema (Said.text_of_commit g) t is = absurd (cc is)
says_text json schema Said.snapshot t is = absurd (cc is)
says_text json schema (Said.release_snapshot g) t is = absurd (cc is)
says_text json schema (Said.prune n) t is = absurd (cc is)
says_text json schema (Said.chore c) t is = absurd (cc is)

module _ (json : Json) (from : Opened) (reads : ReadsLines json) (sound : IsSchema from.start.schema) (shown : AllByRecursion ShownRecord from.start.records) where
  makes_shown : (text : Text) (w : Write) → IsOneLine text → Makes json from.start.schema text w → ShownWrite w
  makes_shown text w one (Makes.put_it a i e k is) =
      let whole : IsOneLine (codes "PUT " ++ a) = subst IsOneLine e one in
      subst ShownWrite (sym is) (reads from.start.schema a i sound whole.1.1.1.1 k)
  makes_shown text w one (Makes.delete_it a e is) = subst ShownWrite (sym is) tt
  makes_shown text w one (Makes.delete_where_it a q e k is) = subst ShownWrite (sym is) tt

  write_shown : (e : Entry) (x : Exchange) (w : Write) → Hears json from.start.schema e.line (heard e.told) → IsOneLine e.line → e.told ≡ Outcome.replied x → accepted x ≡ Some w → ShownWrite w
  write_shown e x w h one is some =
      elim (heard_line json from.start.schema e.line (heard e.told) x.line h (ap heard is)) [
        | inl so ↦
            let a = asks json from.start.schema so.said x.line.command x.reply w so.is some in
            let whole : e.line ≡ decimal x.line.session ++ 32 ∷ spaced (spelling so.said) = so.spells.session_first ∙ ap (λ r. decimal x.line.session ++ 32 ∷ r) so.spells.says.spelled in
            makes_shown (spaced (spelling so.said)) w (all_split (λ b. b ≢ 10) (decimal x.line.session) (32 ∷ spaced (spelling so.said)) (subst IsOneLine whole one)).1.1 a.makes
        | inr nothing ↦ absurd (let k : ◌≡◌ {A = Option Write} None (Some w) = sym (nothing_accepted x nothing.is) ∙ some in cc k)
      ]
    where
      nothing_accepted : (x : Exchange) → x.line.command ≡ Command.formless → accepted x ≡ None
      nothing_accepted x k = ap (λ c. accepted_by c x.reply) k

  told_shown : (past : Run) (e : Entry) (x : Exchange) → Hears json from.start.schema e.line (heard e.told) → Fits from past x → e.told ≡ Outcome.replied x → NamesFiles x.reply → AllByRecursion ShownWrite (writes past) → AllByRecursion ShownText (commits from past) → Shown x.reply
  told_shown past e x h f is named puts texts =
      elim (heard_line json from.start.schema e.line (heard e.told) x.line h (ap heard is)) [
        | inl so ↦ reply_shown json from past x.line.session shown puts texts so.said x.line.command x.reply named so.is f
        | inr nothing ↦ formless_shown json from past x.line.session shown puts texts x.line.command x.reply nothing.is f
      ]

  next_puts : (past : Run) (e : Entry) (x : Exchange) → Hears json from.start.schema e.line (heard e.told) → IsOneLine e.line → e.told ≡ Outcome.replied x → AllByRecursion ShownWrite (writes past) → AllByRecursion ShownWrite (writes (past ++ x ∷ []))
  next_puts past e x h one is puts = subst (AllByRecursion ShownWrite) (sym (writes-push past x)) (All-both ShownWrite (writes past) (cons_option (accepted x) []) puts (by (accepted x) refl))
    where
      by : (o : Option Write) → accepted x ≡ o → AllByRecursion ShownWrite (cons_option o [])
      by None k = tt
      by (Some w) k = (write_shown e x w h one is k, tt)

  commit_shown : (e : Entry) (x : Exchange) (k : CommitText) → Hears json from.start.schema e.line (heard e.told) → e.told ≡ Outcome.replied x → commit_by x.line.command x.reply ≡ Some k → ShownText k
  commit_shown e x k h is some =
      let c : IsCommitted x.line.command k = committed_by x.line.command x.reply k some in
      elim (heard_line json from.start.schema e.line (heard e.told) x.line h (ap heard is)) [
        | inl so ↦ says_text json from.start.schema so.said k.text (subst (IsCommand json from.start.schema so.said) c.command so.is)
        | inr nothing ↦ absurd (let q : Command.commit (Ok k.text) ≡ Command.formless = sym c.command ∙ nothing.is in cc q)
      ]

  next_texts : (past : Run) (e : Entry) (x : Exchange) → Hears json from.start.schema e.line (heard e.told) → e.told ≡ Outcome.replied x → AllByRecursion ShownText (commits from past) → AllByRecursion ShownText (commits from (past ++ x ∷ []))
  next_texts past e x h is texts = subst (AllByRecursion ShownText) (sym (commits-push from past x)) (All-both ShownText (commits from past) (cons_option (commit_by x.line.command x.reply) []) texts (by (commit_by x.line.command x.reply) refl))
    where
      by : (o : Option CommitText) → commit_by x.line.command x.reply ≡ o → AllByRecursion ShownText (cons_option o [])
      by None k = tt
      by (Some c) k = (commit_shown e x c h is k, tt)

  pub entries_shown : (past : Run) (es : List Entry) → Heeded json from.start.schema es → AllByRecursion (λ e. IsOneLine e.line) es → AllByRecursion (λ e. TellsFiles e.told) es → FitsFrom from past (run_of es)
      → AllByRecursion ShownWrite (writes past) → AllByRecursion ShownText (commits from past) → AllByRecursion (λ e. ShownTold e.told) es
  entries_shown past [] h one named f puts texts = tt
  entries_shown past (e ∷ es) h one named f puts texts = by (λ p g q r. entries_shown p es h.1 one.1 named.1 g q r) e.told refl f
    where
      by : ((p : Run) → FitsFrom from p (run_of es) → AllByRecursion ShownWrite (writes p) → AllByRecursion ShownText (commits from p) → AllByRecursion (λ e. ShownTold e.told) es)
          → (told : Outcome) → e.told ≡ told → FitsFrom from past (cons_option (exchange told) (run_of es)) → ShownTold e.told × AllByRecursion (λ e. ShownTold e.told) es
      by rest Outcome.unreadable is g = (subst ShownTold (sym is) tt, rest past g puts texts)
      by rest (Outcome.replied x) is g = (
        subst ShownTold (sym is) (told_shown past e x h.0 g.0 is (subst TellsFiles is named.0) puts texts),
        rest (past ++ x ∷ []) g.1 (next_puts past e x h.0 one.0 is puts) (next_texts past e x h.0 is texts),
      )

-- ---- the whole

-- the entries that a talk is of
pub record Whole (json : Json) (from : Opened) (talk : List Pair) : Type 0 where
  pub es : List Entry
  pub heed : Heeded json from.start.schema es
  pub is_run : IsRun from (run_of es)
  pub shown : AllByRecursion (λ e. ShownTold e.told) es
  pub is : talk ≡ map pair es

lines_kept : (ls : List Text) (ts : List Outcome) → AllByRecursion IsOneLine ls → AllByRecursion (λ e. IsOneLine e.line) (entries ls ts)
lines_kept [] ts a = tt
lines_kept (l ∷ ls) [] a = tt
lines_kept (l ∷ ls) (t ∷ ts) a = (a.0, lines_kept ls ts a.1)

told_kept : (ls : List Text) (ts : List Outcome) → AllByRecursion TellsFiles ts → AllByRecursion (λ e. TellsFiles e.told) (entries ls ts)
told_kept [] ts a = tt
told_kept (l ∷ ls) [] a = tt
told_kept (l ∷ ls) (t ∷ ts) a = (a.0, told_kept ls ts a.1)

greeting : (t : ℕ) → IsOneLine (codes "OK" ++ 32 ∷ decimal t)
greeting t = (λ e. omega (arith, e), (λ e. omega (arith, e), (λ e. omega (arith, e), decimal_one_line t)))

greeted : (t : ℕ) (rest : Text) → line_text (codes "OK" ∷ decimal t ∷ []) ++ rest ≡ (codes "OK" ++ 32 ∷ decimal t) ++ 10 ∷ rest
greeted t rest = append_assoc (codes "OK" ++ 32 ∷ decimal t) (10 ∷ []) rest

module _ (json : Json) (reads : ReadsLines json) (from : Opened) (o : IsShownOpened from) (first : Text) (lines : List Text) (output : Text) (cut : AllByRecursion IsOneLine lines) (s : AreAnswered json from lines output) where
  abbrev all : List Entry
  all = entries lines s.tolds

  all_heed : Heeded json from.start.schema all
  all_heed = heeded json from.start.schema lines s.tolds s.heard_all

  all_run : IsRun from (run_of all)
  all_run = subst (IsRun from) (sym (entries_run json from.start.schema lines s.tolds s.heard_all)) s.is_run

  all_shown : AllByRecursion (λ e. ShownTold e.told) all
  all_shown =
      entries_shown json from reads o.start.schema o.start.records [] all all_heed (lines_kept lines s.tolds cut) (told_kept lines s.tolds s.files) all_run tt (opened_texts from o.commit)

  written : output ≡ (codes "OK" ++ 32 ∷ decimal from.start.token) ++ 10 ∷ flat_map (λ p. p.reply) (map pair all)
  written = s.whole ∙ greeted from.start.token (flat_map outcome_text s.tolds) ∙ ap (λ r. (codes "OK" ++ 32 ∷ decimal from.start.token) ++ 10 ∷ r) (sym (entries_replies json from.start.schema lines s.tolds s.heard_all))

  pub the_talk : IsTalk (first ∷ lines) output (map pair all)
  the_talk = record {
    first = first;
    opening = codes "OK" ++ 32 ∷ decimal from.start.token;
    one_line = greeting from.start.token;
    read = ap (λ ls. first ∷ ls) (sym (entries_lines json from.start.schema lines s.tolds s.heard_all));
    replies = replies_of all all_shown;
    written = written;
  }

  pub one_talk : (other : List Pair) → IsTalk (first ∷ lines) output other → other ≡ map pair all
  one_talk other t =
      let replies : flat_map (λ p. p.reply) other ≡ flat_map (λ p. p.reply) (map pair all) =
      (same_line t.opening (codes "OK" ++ 32 ∷ decimal from.start.token) (flat_map (λ p. p.reply) other) (flat_map (λ p. p.reply) (map pair all)) t.one_line (greeting from.start.token) (sym t.written ∙ written)).1 in
      let read : lines ≡ map (λ p. p.line) other = cc (t.read) in
      talks_same other (map pair all) t.replies (replies_of all all_shown) (sym read ∙ sym (entries_lines json from.start.schema lines s.tolds s.heard_all)) replies

  pub whole_of : (other : List Pair) → IsTalk (first ∷ lines) output other → Whole json from other
  whole_of other t = record { es = all; heed = all_heed; is_run = all_run; shown = all_shown; is = one_talk other t }

pub answers_of_any_start : AnswersOfAnyStartAreTalks
answers_of_any_start json reads from first output lines o cut s =
    (map pair (entries lines s.tolds), the_talk json reads from o first lines output cut s, one_talk json reads from o first lines output cut s)

-- what serving a directory says of a text comes to this, where the directory always tells of its files
pub answered_in : (json : Json) {D : Type 0} (kind : DirectoryKind D) (device left : D) (first : Text) (lines : List Text) (text : Text) → TellsAlways kind
    → (s : IsServedIn json kind device left first lines text) → AreAnswered json s.from lines text
answered_in json kind device left first lines text always s = record {
  tolds = s.tolds;
  heard_all = s.heard_all;
  is_run = subst (λ os. IsRun s.from (filter_map exchange os)) (sym (s.same always)) s.is_run;
  files = s.files;
  whole = s.whole;
}
