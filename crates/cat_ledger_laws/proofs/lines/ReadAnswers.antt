-- Replies to reads, and what FILES and NOTE tell.
use Rattle.std.proofs.Common.{◌≡◌, ◌≢◌, ℕ, List, [], ◌∷◌, length, map, Bool, true, false, cond, Option, Some, None, refl, sym, ◌∙◌, ap, ap₂, subst, arith, inl}
use Rattle.std.specs.Prelude.{◌==◌, Ok, Err, option_map, is_some}
use Rattle.std.specs.List.{find, AllByRecursion}
use Rattle.std.specs.Option.{option_map_or}
use Rattle.std.proofs.lemmas.Bool.Decides.{nat_tests}
use Rattle.std.proofs.lemmas.List.Elements.{All-from_recursion, recursion_from_All}
use Rattle.cat_model.specs.cat_base.declared.refusal.Refusal.TheVariants.{NotHeld, NoCommit}
use Rattle.cat_model.specs.Answer.{Read, Found, answer, stored, query_refusal}
use Rattle.cat_model.specs.CommitFile.{CommitFile}
use Rattle.cat_model.specs.Files.{Name}
use Rattle.cat_model.specs.Item.{Schema, Record}
use Rattle.cat_model.specs.Run.{Command, Answer, Reply, found_reply, or_not_held, read_reply, text_under}
use Rattle.cat_model.specs.State.{Commit, RecordedTable, found_table, has_commit, has_hold, table_under, told_by}
use Rattle.cat_model.specs.Table.{CommitText}
use Rattle.cat_model.specs.Text.{Text, same_text}
use Rattle.cat_model.specs.View.{Leaf, Row, View, row_of, records_in}
use Rattle.cat_model.proofs.Lists.{All-weaken}
use Rattle.cat_directory.specs.declared.name.FileName.{FileName}
use Rattle.cat_directory.specs.declared.name.FileName.TheVariants as file
use Rattle.cat_directory.specs.Devices.{Told}
use Rattle.cat_ledger_laws.specs.model.Portions.{Portion, leaf_of, records_of}
use Rattle.cat_ledger_laws.specs.model.Ledger.{RecordedView, Ledger, LedgerCommit, commit_file, commit_shown, state_of, view_shown}
use Rattle.cat_ledger_laws.specs.model.Replies.{Calls}
use Rattle.cat_ledger_laws.specs.model.Stored.{FileBytes, IsStored, joined_sources, portion_in}
use Rattle.cat_ledger_laws.proofs.model.Shown.{rows-shown, All-map}
use Rattle.cat_ledger_laws.proofs.model.Sourced.{portions_are_read, views_are_read}
use Rattle.cat_ledger_laws.specs.shape.Shapes.{Shape, shape_of, recorded_view}
use Rattle.cat_ledger_laws.specs.shape.Ties.{ToldFiles, IsTold, Carries}
use Rattle.cat_ledger_laws.proofs.shape.Told.{carries_still}
use Rattle.cat_ledger_laws.proofs.shape.Leaves.{any_map, map_twice}
use Rattle.cat_ledger_laws.specs.lines.RunLaws.{ReplyLike}
use Rattle.cat_ledger_laws.specs.lines.LineLaws.{line_of}
use Rattle.cat_ledger_laws.specs.lines.ReadLaws.{IsRecordedAs, ReadFinds, ReadsAnswer, UnheldReadsAnswer, TellsSources, length_shown, IsTextOf, GetsAnswer, SourcesAreWhole, FilesAnswer, UnheldFilesAnswer, kept_under, CommitFilesAnswer, UnkeptFilesAnswer, TextsAnswer, UnkeptTextsAnswer}
use Rattle.cat_ledger_laws.proofs.lines.LineAnswers.{answers_still, given, denied}
use Rattle.cat_ledger_laws.proofs.lines.HoldAnswers.{held_as}
use Rattle.cat_ledger_laws.proofs.lines.Found.{find_map, found_in, any_found, holds_found, All-unmap, All-and}

-- ---- the view of a token

-- the ledger's view of the token, and the table that is read under it
record IsUnder (l : Ledger) (t : ℕ) (view : View) : Type 0 where
  own : RecordedView
  seen : recorded_view l.schema own ≡ view
  found : find (λ (v : RecordedView). v.token == t) l.views ≡ Some own
  table : table_under (state_of l).views t ≡ records_of own.portions

under : (s : Shape) (l : Ledger) → shape_of l ≡ s → (t : ℕ) (view : View) → IsRecordedAs s.views t view → IsUnder l t view
under s l e t view is =
    let x = found_in (recorded_view l.schema) (λ (v : View). v.token == t) l.views view (ap (λ (s : Shape). find (λ (v : View). v.token == t) s.views) e ∙ is) in
    record {
      own = x.0;
      seen = x.1;
      found = x.2;
      table = ap found_table (find_map view_shown (λ (v : RecordedTable). v.token == t) l.views ∙ ap (option_map view_shown) x.2);
    }

-- a read of a token that is held reads that view's records
reads_under : (l : Ledger) (session t : ℕ) (view : View) (asked : Read) (u : IsUnder l t view) → has_hold l.holds session t ≡ true
    → read_reply (has_hold l.holds session t) l.schema (table_under (state_of l).views t) asked ≡ found_reply (answer l.schema (records_of u.own.portions) asked)
reads_under l session t view asked u held =
    ap (λ b. read_reply b l.schema (table_under (state_of l).views t) asked) held ∙ ap (λ rs. found_reply (answer l.schema rs asked)) u.table

pub reads_answer : ReadsAnswer
reads_answer policy told told' s new session t asked view found held is finds still = answers_still policy told told' s new (line_of session (Command.read t asked)) (found_reply found) still (λ l e.
    let u = under s l e t view is in
    let here : ReadFinds (recorded_view l.schema u.own) asked found = subst (λ v. ReadFinds v asked found) (sym u.seen) finds in
    let same : answer l.schema (records_of u.own.portions) asked ≡ found = here (records_of u.own.portions) (rows-shown l.schema u.own.portions) in
    inl (sym (reads_under l session t view asked u (held_as s l e session t true held) ∙ ap found_reply same), refl))

pub unheld_reads_answer : UnheldReadsAnswer
unheld_reads_answer policy told told' s new session t asked unheld still = answers_still policy told told' s new (line_of session (Command.read t asked)) (or_not_held (query_refusal asked)) still (λ l e.
    inl (sym (ap (λ b. read_reply b l.schema (table_under (state_of l).views t) asked) (held_as s l e session t false unheld)), refl))

-- ---- the text of an item

alike_texts : (a b : Option Text) → option_map (λ text. length text) a ≡ option_map (λ text. length text) b
    → ReplyLike (Ok (Answer.found (Found.source a))) (Ok (Answer.found (Found.source b)))
alike_texts None None e = refl
alike_texts None (Some y) e = absurd (cc e)
alike_texts (Some x) None e = absurd (cc e)
alike_texts (Some x) (Some y) e = same (length x) (length y) e
  where
    same : (m n : ℕ) → Some m ≡ Some n → m ≡ n
    same m n e = cc

length_of : (o : Option Record) → option_map (λ (row : Row). row.length) (option_map row_of o) ≡ option_map (λ text. length text) (option_map (λ (r : Record). r.item.source) o)
length_of None = refl
length_of (Some r) = refl

-- the length that a row tells is that of the text that is stored
lengths_stored : (schema : Schema) (v : RecordedView) (id : Text) → length_shown (recorded_view schema v) id ≡ option_map (λ text. length text) (stored (records_of v.portions) id)
lengths_stored schema v id =
    let has : Row → Bool = λ row. same_text row.id id in
    ap (λ rows. option_map (λ (row : Row). row.length) (find has rows)) (sym (rows-shown schema v.portions))
    ∙ ap (option_map (λ (row : Row). row.length)) (find_map row_of has (records_of v.portions))
    ∙ length_of (find (λ (r : Record). same_text r.item.id id) (records_of v.portions))

portions_back : (schema : Schema) (sources : ℕ → Text) (ps : List Portion) → AllByRecursion (λ (p : Portion). sources p.number ≡ joined_sources p.records) ps
    → map (portion_in sources) (map (leaf_of schema) ps) ≡ ps
portions_back schema sources [] a = refl
portions_back schema sources (p ∷ ps) a = ap₂ (λ (x : Portion) (xs : List Portion). x ∷ xs) (portions_are_read schema p sources a.0) (portions_back schema sources ps a.1)

-- the bytes of a file, and none where it is absent
abbrev content_of : Option Text → Text
content_of None = []
content_of (Some bytes) = bytes

told_content : (t : Told) (content : Option Text) → IsTold t content → t ≢ None → t ≡ Some content
told_content None content h some = absurd (some refl)
told_content (Some x) content h some = ap Some h

-- where all is told, the text that is read is the one that is stored
module _ (told : ToldFiles) (s : Shape) (l : Ledger) (files : FileBytes) (c : Carries told s l files) (tells : (q : FileName) → told q ≢ None) where
  abbrev sources_there : ℕ → Text
  sources_there n = content_of (files (Name.source n))

  read_there : (v : RecordedView) (id : Text) (found : Option Text) → AllByRecursion (IsStored files l.schema) v.portions → IsTextOf told (recorded_view l.schema v) id found
      → found ≡ stored (records_of v.portions) id
  read_there v id found stands text =
      let said : AllByRecursion (λ (p : Portion). told (file.Source p.number) ≡ Some (Some (sources_there p.number))) v.portions =
      All-weaken (IsStored files l.schema) (λ (p : Portion). told (file.Source p.number) ≡ Some (Some (sources_there p.number)))
      (λ p h. told_content (told (file.Source p.number)) (files (Name.source p.number)) (c.agrees (Name.source p.number)) (tells (file.Source p.number)) ∙ ap (λ o. Some o) (h.source ∙ ap (λ o. Some (content_of o)) (sym h.source))) v.portions stands in
      let all : TellsSources told sources_there (recorded_view l.schema v) =
      All-from_recursion (λ (leaf : Leaf). told (file.Source leaf.segment.number) ≡ Some (Some (sources_there leaf.segment.number))) (map (leaf_of l.schema) v.portions)
      (All-map (λ (leaf : Leaf). told (file.Source leaf.segment.number) ≡ Some (Some (sources_there leaf.segment.number))) (leaf_of l.schema) v.portions said) in
      let joined : AllByRecursion (λ (p : Portion). sources_there p.number ≡ joined_sources p.records) v.portions =
      All-weaken (IsStored files l.schema) (λ (p : Portion). sources_there p.number ≡ joined_sources p.records) (λ p h. ap content_of h.source) v.portions stands in
      text.read sources_there all
      ∙ ap (λ rs. stored rs id) (views_are_read sources_there (recorded_view l.schema v) ∙ ap records_of (portions_back l.schema sources_there v.portions joined))

joined_told : (content : Option Text) (sources joined : Text) → IsTold (Some (Some sources)) content → content ≡ Some joined → sources ≡ joined
joined_told content sources joined h e = same (h ∙ e)
  where
    same : Some sources ≡ Some joined → sources ≡ joined
    same e = cc

pub sources_are_whole : SourcesAreWhole
sources_are_whole told s l files c t view sources is tells id =
    let u = under s l c.shape t view is in
    let ps : List Portion = u.own.portions in
    let all : TellsSources told sources (recorded_view l.schema u.own) = subst (λ v. TellsSources told sources v) (sym u.seen) tells in
    let tells_leaf : Leaf → Type 0 = λ leaf. told (file.Source leaf.segment.number) ≡ Some (Some (sources leaf.segment.number)) in
    let said : AllByRecursion (λ (p : Portion). told (file.Source p.number) ≡ Some (Some (sources p.number))) ps =
    All-unmap tells_leaf (leaf_of l.schema) ps (recursion_from_All tells_leaf (map (leaf_of l.schema) ps) all) in
    let stands : AllByRecursion (IsStored files l.schema) ps =
    holds_found (λ (v : RecordedView). AllByRecursion (IsStored files l.schema) v.portions) (λ (v : RecordedView). v.token == t) l.views u.own c.stored.views u.found in
    let joined : AllByRecursion (λ (p : Portion). sources p.number ≡ joined_sources p.records) ps =
    All-weaken (λ (p : Portion). (told (file.Source p.number) ≡ Some (Some (sources p.number))) × IsStored files l.schema p) (λ (p : Portion). sources p.number ≡ joined_sources p.records)
    (λ p h. joined_told (files (Name.source p.number)) (sources p.number) (joined_sources p.records) (subst (λ told. IsTold told (files (Name.source p.number))) h.0 (c.agrees (Name.source p.number))) h.1.source) ps
    (All-and (λ (p : Portion). told (file.Source p.number) ≡ Some (Some (sources p.number))) (IsStored files l.schema) ps said stands) in
    let read : records_in sources (recorded_view l.schema u.own) ≡ records_of ps = views_are_read sources (recorded_view l.schema u.own) ∙ ap records_of (portions_back l.schema sources ps joined) in
    subst (λ v. option_map (λ text. length text) (stored (records_in sources v) id) ≡ length_shown v id) u.seen
    (ap (λ rs. option_map (λ text. length text) (stored rs id)) read ∙ sym (lengths_stored l.schema u.own id))

pub gets_answer : GetsAnswer
gets_answer policy told told' s new session t id view found held is text still l files c =
    let u = under s l c.shape t view is in
    let asked : Read = Read.get (Ok id) in
    let its : Option Text = stored (records_of u.own.portions) id in
    let own : IsTextOf told (recorded_view l.schema u.own) id found = subst (λ v. IsTextOf told v id found) (sym u.seen) text in
    let stands : AllByRecursion (IsStored files l.schema) u.own.portions =
    holds_found (λ (v : RecordedView). AllByRecursion (IsStored files l.schema) v.portions) (λ (v : RecordedView). v.token == t) l.views u.own c.stored.views u.found in
    let on : Carries told' s l files = carries_still told told' s l files still.1 c in
    let fitting : Reply = Ok (Answer.found (Found.source its)) in
    let call : Calls policy l (line_of session (Command.read t asked)) fitting l = inl (sym (reads_under l session t view asked u (held_as s l c.shape session t true held)), refl) in (
      l,
      files,
      fitting,
      record {
        alike = alike_texts found its (own.long ∙ lengths_stored l.schema u.own id);
        same = λ tells. ap (λ o. Ok (Answer.found (Found.source o))) (read_there told s l files c tells u.own id found stands own);
      },
      call,
      record { shape = c.shape ∙ sym still.0; sound = on.sound; stored = on.stored; agrees = on.agrees },
    )

-- ---- names of files

pub files_answer : FilesAnswer
files_answer policy told told' s new session t names held still = answers_still policy told told' s new (line_of session (Command.files_of_token t)) (Ok (Answer.names names)) still (λ l e.
    inl (given (◌≡◌ {A = Reply} (Ok (Answer.names names)) (Err NotHeld)) (has_hold l.holds session t) (held_as s l e session t true held) (names, refl), refl))

pub unheld_files_answer : UnheldFilesAnswer
unheld_files_answer policy told told' s new session t unheld still = answers_still policy told told' s new (line_of session (Command.files_of_token t)) (Err NotHeld) still (λ l e.
    inl (denied ((ns : List Text) × ◌≡◌ {A = Reply} (Err NotHeld) (Ok (Answer.names ns))) (has_hold l.holds session t) (held_as s l e session t false unheld) refl, refl))

-- ---- kept commits

equal_again : (a b : ℕ) → (a == b) ≡ (b == a)
equal_again a b = grind (arith, nat_tests)

-- a commit of the generation is kept where one is found
has_kept : (s : Shape) (l : Ledger) → shape_of l ≡ s → (g : ℕ) → has_commit (state_of l).commits g ≡ is_some (kept_under s.commits g)
has_kept s l e g =
    any_map commit_shown (λ (c : Commit). g == c.generation) l.commits
    ∙ sym (any_map (commit_file l.schema) (λ (c : CommitFile). g == c.generation) l.commits)
    ∙ any_found (λ (c : CommitFile). c.generation == g) (λ (c : CommitFile). g == c.generation) (λ c. equal_again c.generation g) (map (commit_file l.schema) l.commits)
    ∙ ap (λ (s : Shape). is_some (kept_under s.commits g)) e

-- its text is the one that is told
text_kept : (s : Shape) (l : Ledger) → shape_of l ≡ s → (g : ℕ) (c : CommitFile) → kept_under s.commits g ≡ Some c → text_under (map told_by (state_of l).commits) g ≡ c.text
text_kept s l e g c is =
    let x = found_in (commit_file l.schema) (λ (c : CommitFile). c.generation == g) l.commits c (ap (λ (s : Shape). kept_under s.commits g) e ∙ is) in
    let as_told : LedgerCommit → CommitText = λ c. told_by (commit_shown c) in
    ap (λ cs. text_under cs g) (map_twice commit_shown told_by l.commits)
    ∙ ap (λ o. option_map_or (λ (c : CommitText). c.text) o []) (find_map as_told (λ (c : CommitText). c.generation == g) l.commits ∙ ap (option_map as_told) x.2)
    ∙ ap (λ (f : CommitFile). f.text) x.1

pub commit_files_answer : CommitFilesAnswer
commit_files_answer policy told told' s new session g c names is still = answers_still policy told told' s new (line_of session (Command.files_of_commit g)) (Ok (Answer.names names)) still (λ l e.
    inl (given (◌≡◌ {A = Reply} (Ok (Answer.names names)) (Err NoCommit)) (has_commit (state_of l).commits g) (has_kept s l e g ∙ ap is_some is) (names, refl), refl))

pub unkept_files_answer : UnkeptFilesAnswer
unkept_files_answer policy told told' s new session g is still = answers_still policy told told' s new (line_of session (Command.files_of_commit g)) (Err NoCommit) still (λ l e.
    inl (denied ((ns : List Text) × ◌≡◌ {A = Reply} (Err NoCommit) (Ok (Answer.names ns))) (has_commit (state_of l).commits g) (has_kept s l e g ∙ ap is_some is) refl, refl))

abbrev told_text : Bool → Text → Reply
told_text b text = cond b (Ok (Answer.commit_text text)) (Err NoCommit)

pub texts_answer : TextsAnswer
texts_answer policy told told' s new session g c is still = answers_still policy told told' s new (line_of session (Command.text_of_commit g)) (Ok (Answer.commit_text c.text)) still (λ l e.
    inl (sym (ap (λ b. told_text b (text_under (map told_by (state_of l).commits) g)) (has_kept s l e g ∙ ap is_some is) ∙ ap (told_text true) (text_kept s l e g c is)), refl))

pub unkept_texts_answer : UnkeptTextsAnswer
unkept_texts_answer policy told told' s new session g is still = answers_still policy told told' s new (line_of session (Command.text_of_commit g)) (Err NoCommit) still (λ l e.
    inl (sym (ap (λ b. told_text b (text_under (map told_by (state_of l).commits) g)) (has_kept s l e g ∙ ap is_some is)), refl))
