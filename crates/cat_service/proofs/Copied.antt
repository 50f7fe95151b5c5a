-- Two directories with the same files of a commit hold the same commit and the same table.
use Rattle.std.proofs.Common.{◌≡◌, ℕ, ◌≤◌, List, [], ◌∷◌, length, map, Bool, true, false, cond, refl, sym, ◌∙◌, ap, ap₂, subst, inl, inr, arith}
use Rattle.std.specs.Prelude.{◌==◌, Option, None, Some}
use Rattle.std.specs.List.{find, flat_map, AllByRecursion}
use Rattle.std.specs.Option.{option_map_or}
use Rattle.std.proofs.lemmas.Bool.Decides.{eqb_tells}
use Rattle.cat_model.specs.CommitFile.{CommitFile, SpellsCommit, commit_needs}
use Rattle.cat_model.specs.Files.{Name}
use Rattle.cat_model.specs.Item.{Schema}
use Rattle.cat_model.specs.Layout.{SpellsSegment}
use Rattle.cat_model.specs.LiveFile.{LiveRows, SpellsLive}
use Rattle.cat_model.specs.Run.{Run, commits, is_kept, commit_under, committed_at, text_under, writes}
use Rattle.cat_model.specs.State.{Commit, IsCommitOf, told_by}
use Rattle.cat_model.specs.Table.{CommitText, Opened, table}
use Rattle.cat_model.specs.Text.{Text}
use Rattle.cat_model.specs.View.{Segment, row_of, sourced}
use Rattle.cat_directory.specs.Devices.{Told}
use Rattle.cat_directory.specs.declared.name.FileName.TheVariants as file
use Rattle.cat_ledger_laws.specs.model.Ledger.{Ledger, LedgerCommit, Listed, IsWholeCommit, commit_file, commit_shown, listed_segment, names_of_commit, names_of_listed, portions_in}
use Rattle.cat_ledger_laws.specs.model.Portions.{Portion, records_of, segment_of}
use Rattle.cat_ledger_laws.specs.model.Stored.{FileBytes, HasLive, IsCommitStored, IsLiveStored, IsStored, joined_sources}
use Rattle.cat_ledger_laws.proofs.model.Sourced.{portions_are_read}
use Rattle.cat_ledger_laws.proofs.model.Users.{All-split}
use Rattle.cat_ledger_laws.proofs.model.Written.{commits_need_their_names}
use Rattle.cat_ledger_laws.specs.shape.Shapes.{Shape}
use Rattle.cat_ledger_laws.specs.shape.Ties.{FilesAgree, IsTold, ToldFiles, file_of}
use Rattle.cat_ledger_laws.specs.lines.ReadLaws.{kept_under}
use Rattle.cat_ledger_laws.specs.lines.RunLaws.{Stands}
use Rattle.cat_ledger_laws.proofs.lines.Found.{All-unmap, found_in, holds_found}
use Rattle.cat_commands.specs.cat_ledger_state.startup.Newest.{IsNewestCommit}
use Rattle.cat_commands.proofs.commits_laws.reading.Agreeing.{LiveLaw, SegmentsLaw}
use Rattle.cat_service.specs.Copies.{BeginsAtTable, CopiesOpenAlike, HasCopies, TellsEach}
use Rattle.cat_service.specs.Opening.{BeginsAtCommit}

abbrev CommitsLaw : Type 0
CommitsLaw = (bytes : List ℕ) (one two : CommitFile) → SpellsCommit bytes one → SpellsCommit bytes two → one ≡ two

one_text : (a b : Text) → ◌≡◌ {A = Option Text} (Some a) (Some b) → a ≡ b
one_text a b e = cc

-- of two lists of live rows of one length, in which all are live
all_true : (xs ys : List Bool) → AllByRecursion (λ b. b ≡ true) xs → AllByRecursion (λ b. b ≡ true) ys → length xs ≡ length ys → xs ≡ ys
all_true [] [] a b e = refl
all_true [] (y ∷ ys) a b e = absurd (omega (arith, e))
all_true (x ∷ xs) [] a b e = absurd (omega (arith, e))
all_true (x ∷ xs) (y ∷ ys) a b e = ap₂ (λ (z : Bool) (zs : List Bool). z ∷ zs) (a.0 ∙ sym b.0) (all_true xs ys a.1 b.1 (omega (arith, e)))

-- what is found passes the test
find_passes : {X : Type 0} (p : X → Bool) (xs : List X) (x : X) → find p xs ≡ Some x → p x ≡ true
find_passes p [] x e = absurd (let no : None ≡ Some x = e in cc)
find_passes {X = X} p (y ∷ ys) x e = by (p y) refl (λ f. find_passes p ys x f) e
  where
    by : (b : Bool) → p y ≡ b → (find p ys ≡ Some x → p x ≡ true) → cond b (Some y) (find p ys) ≡ Some x → p x ≡ true
    by true h more e = subst (λ z. p z ≡ true) (let k : y ≡ x = cc in k) h
    by false h more e = more e

-- what a file holds that is copied
copied : (told copy : ToldFiles) (files held : FileBytes) → FilesAgree told files → FilesAgree copy held → TellsEach copy → (q : Name)
    → copy (file_of q) ≡ told (file_of q) → held q ≡ files q
copied told copy files held agrees agreed tells q same = by (copy (file_of q)) refl
  where
    by : (t : Told) → copy (file_of q) ≡ t → held q ≡ files q
    by None e = absurd (tells (file_of q) e)
    by (Some content) e =
        let one : content ≡ held q = subst (λ t. IsTold t (held q)) e (agreed q) in
        let two : content ≡ files q = subst (λ t. IsTold t (files q)) (sym same ∙ e) (agrees q) in sym one ∙ two

-- what is found by a number has it
found_equals : {X : Type 0} (number : X → ℕ) (g : ℕ) (xs : List X) (x : X) → find (λ y. number y == g) xs ≡ Some x → number x ≡ g
found_equals number g xs x e = holds_equal (find_passes (λ y. number y == g) xs x e)
  where
    holds_equal : (number x == g) ≡ true → number x ≡ g
    holds_equal h = elim (eqb_tells (number x) g) [ inl k ↦ k.1 | inr k ↦ absurd (let no : false ≡ true = sym k.0 ∙ h in cc) ]

module _ (segments : SegmentsLaw) (lives : LiveLaw) (schema : Schema) (held files : FileBytes) where
  -- ---- one segment

  -- the records of a portion are its rows with the sources in its file
  read_back : (p : Portion) → sourced (map row_of p.records) (joined_sources p.records) ≡ p.records
  read_back p = ap (λ (p : Portion). p.records) (portions_are_read schema p (λ n. joined_sources p.records) refl)

  -- portions of one number whose files are the same have the same records
  same_records : (p q : Portion) → p.number ≡ q.number → IsStored held schema p → IsStored files schema q
      → held (Name.segment q.number) ≡ files (Name.segment q.number) → held (Name.source q.number) ≡ files (Name.source q.number)
      → p.records ≡ q.records
  same_records p q number h k segment source =
      let bytes : h.segment.bytes ≡ k.segment.bytes =
      one_text h.segment.bytes k.segment.bytes (sym h.segment.there ∙ ap (λ n. held (Name.segment n)) number ∙ segment ∙ k.segment.there) in
      let same : segment_of schema p ≡ segment_of schema q =
      segments k.segment.bytes (segment_of schema p) (segment_of schema q) (subst (λ b. SpellsSegment b (segment_of schema p)) bytes h.segment.spelled)
      k.segment.spelled in
      let rows : map row_of p.records ≡ map row_of q.records = ap (λ (s : Segment). s.rows) same in
      let sources : joined_sources p.records ≡ joined_sources q.records =
      one_text (joined_sources p.records) (joined_sources q.records) (sym h.source ∙ ap (λ n. held (Name.source n)) number ∙ source ∙ k.source) in
      sym (read_back p) ∙ ap₂ sourced rows sources ∙ read_back q

  -- and the same live rows, where those are as many as the records
  same_live : (x y : Listed) → x.file ≡ y.file → x.portion.number ≡ y.portion.number → length x.portion.live ≡ length y.portion.live
      → HasLive held x → HasLive files y
      → AllByRecursion (λ n. held n ≡ files n) (cond (y.file == 0) [] (Name.live y.portion.number y.file ∷ []))
      → x.portion.live ≡ y.portion.live
  same_live x y file number long h k same =
      by (y.file == 0) (subst (λ f. cond (f == 0) (AllByRecursion (λ b. b ≡ true) x.portion.live) (IsLiveStored held x)) file h) k same
    where
      by : (b : Bool) → cond b (AllByRecursion (λ b. b ≡ true) x.portion.live) (IsLiveStored held x)
          → cond b (AllByRecursion (λ b. b ≡ true) y.portion.live) (IsLiveStored files y)
          → AllByRecursion (λ n. held n ≡ files n) (cond b [] (Name.live y.portion.number y.file ∷ []))
          → x.portion.live ≡ y.portion.live
      by true h k same = all_true x.portion.live y.portion.live h k long
      by false h k same =
          let bytes : h.bytes ≡ k.bytes =
          one_text h.bytes k.bytes (sym h.there ∙ ap₂ (λ (n d : ℕ). held (Name.live n d)) number file ∙ same.0 ∙ k.there) in
          ap (λ (r : LiveRows). r.live) (lives k.bytes (record { number = x.portion.number; generation = x.file; live = x.portion.live })
          (record { number = y.portion.number; generation = y.file; live = y.portion.live })
          (subst (λ b. SpellsLive b (record { number = x.portion.number; generation = x.file; live = x.portion.live })) bytes h.spelled) k.spelled)

  -- ---- all segments of a commit

  abbrev pub AreLong : Portion → Type 0
  AreLong p = length p.live ≡ length p.records

  same_portion : (x y : Listed) → listed_segment x ≡ listed_segment y → IsStored held schema x.portion → IsStored files schema y.portion
      → HasLive held x → HasLive files y → AreLong x.portion → AreLong y.portion
      → AllByRecursion (λ n. held n ≡ files n) (names_of_listed y) → x.portion ≡ y.portion
  same_portion x y e h k hl kl lx ly same =
      let number : x.portion.number ≡ y.portion.number = ap (λ s. s.number) e in
      let records : x.portion.records ≡ y.portion.records = same_records x.portion y.portion number h k same.0 same.1.0 in
      let live : x.portion.live ≡ y.portion.live =
      same_live x y (ap (λ s. s.file) e) number (lx ∙ ap length records ∙ sym ly) hl kl same.1.1 in
      λ i. record { number = number i; records = records i; live = live i }

  same_portions : (xs ys : List Listed) → map listed_segment xs ≡ map listed_segment ys
      → AllByRecursion (λ (x : Listed). IsStored held schema x.portion) xs → AllByRecursion (λ (y : Listed). IsStored files schema y.portion) ys
      → AllByRecursion (HasLive held) xs → AllByRecursion (HasLive files) ys
      → AllByRecursion AreLong (map (λ (x : Listed). x.portion) xs) → AllByRecursion AreLong (map (λ (y : Listed). y.portion) ys)
      → AllByRecursion (λ n. held n ≡ files n) (flat_map names_of_listed ys)
      → map (λ (x : Listed). x.portion) xs ≡ map (λ (y : Listed). y.portion) ys
  same_portions [] [] e h k hl kl lx ly same = refl
  same_portions [] (y ∷ ys) e h k hl kl lx ly same = absurd (cc e)
  same_portions (x ∷ xs) [] e h k hl kl lx ly same = absurd (cc e)
  same_portions (x ∷ xs) (y ∷ ys) e h k hl kl lx ly same =
      let parts = All-split (λ n. held n ≡ files n) (names_of_listed y) (flat_map names_of_listed ys) same in
      ap₂ (λ (p : Portion) (ps : List Portion). p ∷ ps) (same_portion x y (cc e) h.0 k.0 hl.0 kl.0 lx.0 ly.0 parts.0)
      (same_portions xs ys (cc e) h.1 k.1 hl.1 kl.1 lx.1 ly.1 parts.1)

-- ---- of a run

module _ (segments : SegmentsLaw) (lives : LiveLaw) (one_commit : CommitsLaw) (told copy : ToldFiles) (s : Shape) (from : Opened) (run : Run) (g : ℕ)
    (commit : CommitFile) (begun : Opened) (stands : Stands told s from run) (kept : kept_under s.commits g ≡ Some commit)
    (copies : HasCopies told (commit_needs commit) copy) (tells : TellsEach copy) (newest : IsNewestCommit copy g) (b : BeginsAtCommit copy s.schema begun) where
  abbrev l : Ledger
  l = stands.ledger

  -- what holds of each commit that is kept
  record IsKeptCommit (c : LedgerCommit) : Type 0 where
    stored : IsCommitStored stands.files l.schema c
    whole : IsWholeCommit l.schema l.count c
    of_run : IsCommitOf from.start run (commit_shown c)
    text : commit_under (commits from run) c.generation ≡ Some (told_by (commit_shown c))
    reaches : committed_at from run c.generation ≡ Some c.token

  each_kept : AllByRecursion IsKeptCommit l.commits
  each_kept =
      joined l.commits stands.carries.stored.commits stands.carries.sound.commits (All-unmap (IsCommitOf from.start run) commit_shown l.commits stands.stands.keeps.tables)
      (All-unmap (λ (c : Commit). commit_under (commits from run) c.generation ≡ Some (told_by c)) commit_shown l.commits stands.stands.keeps.texts)
      (All-unmap (λ (c : Commit). committed_at from run c.generation ≡ Some c.token) commit_shown l.commits stands.stands.keeps.reaches)
    where
      joined : (cs : List LedgerCommit) → AllByRecursion (IsCommitStored stands.files l.schema) cs → AllByRecursion (IsWholeCommit l.schema l.count) cs
          → AllByRecursion (λ (c : LedgerCommit). IsCommitOf from.start run (commit_shown c)) cs
          → AllByRecursion (λ (c : LedgerCommit). commit_under (commits from run) c.generation ≡ Some (told_by (commit_shown c))) cs
          → AllByRecursion (λ (c : LedgerCommit). committed_at from run c.generation ≡ Some c.token) cs
          → AllByRecursion IsKeptCommit cs
      joined [] a b c d e = tt
      joined (x ∷ xs) a b c d e =
          (record { stored = a.0; whole = b.0; of_run = c.0; text = d.0; reaches = e.0 }, joined xs a.1 b.1 c.1 d.1 e.1)

  -- the kept commit, as the ledger has it
  one : (c : LedgerCommit) × (commit_file l.schema c ≡ commit) × IsKeptCommit c
  one =
      let there : kept_under (map (commit_file l.schema) l.commits) g ≡ Some commit = subst (λ (x : Shape). kept_under x.commits g ≡ Some commit) (sym stands.carries.shape) kept in
      let x = found_in (commit_file l.schema) (λ c. c.generation == g) l.commits commit there in
      (x.0, x.1, holds_found IsKeptCommit (λ c. c.generation == g) l.commits x.0 each_kept x.2)

  abbrev c : LedgerCommit
  c = one.0

  fields : l.schema ≡ s.schema
  fields = ap (λ (x : Shape). x.schema) stands.carries.shape

  generation : commit.generation ≡ g
  generation = kept_number s.commits kept
    where
      kept_number : (cs : List CommitFile) → kept_under cs g ≡ Some commit → commit.generation ≡ g
      kept_number cs e = found_equals (λ (x : CommitFile). x.generation) g cs commit e

  -- ---- the files of the copy

  abbrev held : FileBytes
  held = b.table.files

  same_files : AllByRecursion (λ n. held n ≡ stands.files n) (names_of_commit c)
  same_files =
      each (names_of_commit c)
      (subst (λ ns. HasCopies told ns copy) (sym (ap commit_needs one.1) ∙ sym (commits_need_their_names l.schema c)) copies)
    where
      each : (ns : List Name) → HasCopies told ns copy → AllByRecursion (λ n. held n ≡ stands.files n) ns
      each [] h = tt
      each (n ∷ ns) h = (copied told copy stands.files held stands.carries.agrees b.table.agrees tells n h.0, each ns h.1)

  -- the copy has the commit's own file, which is its newest
  own_there : copy (file.Commit g) ≡ Some (Some one.2.stored.commit.bytes)
  own_there =
      let here : held (Name.commit c.generation) ≡ Some one.2.stored.commit.bytes = same_files.0 ∙ one.2.stored.commit.there in
      let number : c.generation ≡ g = ap (λ (x : CommitFile). x.generation) one.1 ∙ generation in
      told_there (copy (file.Commit g)) refl (subst (λ n. held (Name.commit n) ≡ Some one.2.stored.commit.bytes) number here)
    where
      told_there : (t : Told) → copy (file.Commit g) ≡ t → held (Name.commit g) ≡ Some one.2.stored.commit.bytes → t ≡ Some (Some one.2.stored.commit.bytes)
      told_there None e there = absurd (tells (file.Commit g) e)
      told_there (Some content) e there =
          ap Some (subst (λ t. IsTold t (held (Name.commit g))) e (b.table.agrees (Name.commit g)) ∙ there)

  opened_number : b.generation ≡ g
  opened_number = omega (arith, up, down)
    where
      up : g ≤ b.generation
      up = b.newest.greatest g one.2.stored.commit.bytes own_there

      down : b.generation ≤ g
      down = told_down (copy (file.Commit b.generation)) refl
        where
          told_down : (t : Told) → copy (file.Commit b.generation) ≡ t → b.generation ≤ g
          told_down None e = absurd (tells (file.Commit b.generation) e)
          told_down (Some None) e = absurd (b.newest.there e)
          told_down (Some (Some bytes)) e = newest.greatest b.generation bytes e

  -- so it is the same commit
  same_commit : b.restored.commit ≡ commit
  same_commit =
      let may : IsTold (copy (file.Commit g)) (Some b.held.commit.bytes) =
      subst (λ n. IsTold (copy (file.Commit n)) (Some b.held.commit.bytes)) opened_number b.held.commit.there in
      let bytes : one.2.stored.commit.bytes ≡ b.held.commit.bytes =
      one_text one.2.stored.commit.bytes b.held.commit.bytes (subst (λ t. IsTold t (Some b.held.commit.bytes)) own_there may) in
      one_commit b.held.commit.bytes b.restored.commit commit b.held.commit.spelled
      (subst (λ x. SpellsCommit x commit) bytes (subst (SpellsCommit one.2.stored.commit.bytes) one.1 one.2.stored.commit.spelled))

  same_table : portions_in b.table.commit ≡ portions_in c
  same_table =
      let listed : map listed_segment b.table.commit.listed ≡ map listed_segment c.listed =
      ap (λ (x : CommitFile). x.segments) (b.table.same ∙ same_commit ∙ sym one.1) in
      same_portions segments lives s.schema held stands.files b.table.commit.listed c.listed listed b.table.stored.portions
      (subst (λ schema. AllByRecursion (λ (x : Listed). IsStored stands.files schema x.portion) c.listed) fields one.2.stored.portions)
      b.table.stored.live one.2.stored.live b.table.formed.lengths one.2.whole.1.portions.lengths same_files.1

  pub begins_alike : BeginsAtTable from run commit begun
  begins_alike = record {
    fields = b.fields ∙ sym fields ∙ ap (λ (x : CommitFile). x.schema) one.1;
    records = b.table.table ∙ ap records_of same_table ∙ one.2.of_run.table ∙ ap (table from.start (writes run)) (ap (λ (x : CommitFile). x.token) one.1);
    token = b.token ∙ ap (λ (x : CommitFile). x.token) same_commit;
    reaches =
        ap (committed_at from run) (sym (ap (λ (x : CommitFile). x.generation) one.1))
        ∙ one.2.reaches
        ∙ ap Some (ap (λ (x : CommitFile). x.token) (one.1 ∙ sym same_commit) ∙ sym b.token);
    commit_is = b.commit ∙ ap (λ (x : CommitFile). Some (record { generation = x.generation; text = x.text })) same_commit ∙ told_text;
  }
    where
      told_text : ◌≡◌ {A = Option CommitText} (Some (record { generation = commit.generation; text = commit.text }))
          (Some (record { generation = commit.generation; text = text_under (commits from run) commit.generation }))
      told_text =
          let number : c.generation ≡ commit.generation = ap (λ (x : CommitFile). x.generation) one.1 in
          let text : c.text ≡ commit.text = ap (λ (x : CommitFile). x.text) one.1 in
          let found : text_under (commits from run) commit.generation ≡ commit.text =
          subst (λ n. text_under (commits from run) n ≡ commit.text) number (ap (λ o. option_map_or (λ (c : CommitText). c.text) o []) one.2.text ∙ text) in
          λ i. Some (record { generation = commit.generation; text = sym found i })

pub copies_open_alike : SegmentsLaw → LiveLaw → CommitsLaw → CopiesOpenAlike
copies_open_alike segments lives commits told copy s from run g commit begun stands is_kept kept copies tells newest b =
    begins_alike segments lives commits told copy s from run g commit begun stands kept copies tells newest b
