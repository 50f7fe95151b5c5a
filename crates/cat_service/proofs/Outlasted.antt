-- The newest commit of a run is the newest one that the ledger keeps.
use Rattle.std.proofs.Common.{◌≡◌, ℕ, true, ◌||◌, List, [], ◌∷◌, map, Option, Some, None, refl, sym, ◌∙◌, ap, subst}
use Rattle.std.specs.Prelude.{◌≢◌, ltb, option_map}
use Rattle.std.specs.List.{flat_map, last_or, AllByRecursion}
use Rattle.std.proofs.lemmas.List.Elements.{recursion_from_All}
use Rattle.cat_model.specs.CommitFile.{CommitFile, SpellsCommit, commit_needs, listed_names}
use Rattle.cat_model.specs.Files.{Name}
use Rattle.cat_model.specs.Item.{Record}
use Rattle.cat_model.specs.Run.{Run, commits, is_kept, newest_commit, snapshots, text_under, writes}
use Rattle.cat_model.specs.State.{Commit, is_newest}
use Rattle.cat_model.specs.Table.{Opened, table}
use Rattle.cat_model.specs.Text.{Text}
use Rattle.cat_model.proofs.CommitFiles.{commits_are_told_by_their_bytes}
use Rattle.cat_model.proofs.Commits.{is_newest-self}
use Rattle.cat_directory.specs.Devices.{FileContent, Told}
use Rattle.cat_directory.specs.Names.{name_of}
use Rattle.cat_directory.specs.declared.name.FileName.{FileName}
use Rattle.cat_directory.specs.declared.name.FileName.TheVariants as file
use Rattle.cat_commands.specs.cat_ledger.Histories.{IsCrashed}
use Rattle.cat_commands.specs.cat_ledger.Lasting.{NewestLasts, needs_of}
use Rattle.cat_ledger_laws.specs.lines.NeededLaws.{CommitStands}
use Rattle.cat_ledger_laws.specs.lines.RunLaws.{Stands}
use Rattle.cat_ledger_laws.proofs.lines.NeededFiles.{needed_files_stand, promised_files_stand}
use Rattle.cat_ledger_laws.specs.model.Ledger.{commit_file, commit_shown}
use Rattle.cat_ledger_laws.specs.model.Users.{Used, has_name}
use Rattle.cat_ledger_laws.specs.shape.Shapes.{Shape}
use Rattle.cat_ledger_laws.specs.shape.Ties.{ToldFiles}
use Rattle.cat_ledger_laws.proofs.shape.Leaves.{map_twice}
use Rattle.cat_ledger_laws.proofs.shape.Told.{same_again}
use Rattle.cat_service.specs.Outlasting.{NewestOutlasts, Outlasts}

-- ---- the last of a list

last_map : {X Y : Type 0} (f : X → Y) (o : Option X) (xs : List X) → last_or (option_map f o) (map f xs) ≡ option_map f (last_or o xs)
last_map f o [] = refl
last_map f o (x ∷ xs) = last_map f (Some x) xs

-- what is so of each is so of the last
last_has : {X : Type 0} (P : X → Type 0) (x : X) (xs : List X) (y : X) → P x → AllByRecursion P xs → last_or (Some x) xs ≡ Some y → P y
last_has P x [] y first all e = subst P (let k : x ≡ y = cc in k) first
last_has P x (z ∷ zs) y first all e = last_has P z zs y all.0 all.1 e

last_of_all : {X : Type 0} (P : X → Type 0) (xs : List X) (y : X) → AllByRecursion P xs → last_or None xs ≡ Some y → P y
last_of_all P [] y all e = absurd (let no : None ≡ Some y = e in cc)
last_of_all P (x ∷ xs) y all e = last_has P x xs y all.0 all.1 e

-- the last by its number
last_numbered : (cs : List CommitFile) (g : ℕ) → last_or None (map (λ (c : CommitFile). c.generation) cs) ≡ Some g
    → (c : CommitFile) × (last_or None cs ≡ Some c) × (c.generation ≡ g)
last_numbered cs g e = by (last_or None cs) refl (sym (last_map (λ (c : CommitFile). c.generation) None cs) ∙ e)
  where
    by : (o : Option CommitFile) → last_or None cs ≡ o → option_map (λ (c : CommitFile). c.generation) (last_or None cs) ≡ Some g
        → (c : CommitFile) × (last_or None cs ≡ Some c) × (c.generation ≡ g)
    by None is k = absurd (let no : None ≡ Some g = sym (ap (option_map (λ (c : CommitFile). c.generation)) is) ∙ k in cc)
    by (Some c) is k = (c, is, (let same : Some c.generation ≡ Some g = sym (ap (option_map (λ (c : CommitFile). c.generation)) is) ∙ k in cc))

pub one_text : (a b : Text) → ◌≡◌ {A = FileContent} (Some a) (Some b) → a ≡ b
one_text a b e = cc

-- two commits that stand in one file are one
same_file : (told : ToldFiles) (users : List Used) (tells : (q : FileName) → told q ≢ None) (a b : CommitFile) (ra rb : List Record) → a.generation ≡ b.generation
    → CommitStands told users a ra → CommitStands told users b rb → a ≡ b
same_file told users tells a b ra rb same sa sb = by (told (file.Commit b.generation)) refl
  where
    by : (t : Told) → told (file.Commit b.generation) ≡ t → a ≡ b
    by None e = absurd (tells (file.Commit b.generation) e)
    by (Some content) e =
        let one = sa.file.there content (ap (λ n. told (file.Commit n)) same ∙ e) in
        let two = sb.file.there content e in
        let bytes : one.0 ≡ two.0 = one_text one.0 two.0 (sym one.1 ∙ two.1) in
        commits_are_told_by_their_bytes two.0 a b (subst (λ x. SpellsCommit x a) bytes one.2) two.2

-- the newest commit that memory keeps has the number of the run's
pub newest_number : (told : ToldFiles) (s : Shape) (from : Opened) (run : Run) → Stands told s from run
    → last_or None (map (λ (c : CommitFile). c.generation) s.commits) ≡ newest_commit from run
newest_number told s from run stands =
    let l = stands.ledger in
    ap (λ (x : Shape). last_or None (map (λ (c : CommitFile). c.generation) x.commits)) (sym stands.carries.shape)
    ∙ ap (last_or None) (map_twice (commit_file l.schema) (λ (c : CommitFile). c.generation) l.commits)
    ∙ ap (last_or None) (sym (map_twice commit_shown (λ (c : Commit). c.generation) l.commits))
    ∙ stands.stands.keeps.newest

-- the own file of a commit that outlasts a crash is there after it
pub own_outlasts : (told : ToldFiles) (left : FileName → FileContent → Type 0) (users : List Used) (from : Opened) (run : Run) (g : ℕ)
    → ((q : FileName) → told q ≢ None) → Outlasts told left users from run g → (image : FileName → FileContent) → IsCrashed left image
    → (text : Text) × (image (file.Commit g) ≡ Some text)
own_outlasts told left users from run g tells o image crashed =
    subst (λ n. (text : Text) × (image (file.Commit n) ≡ Some text)) o.generation (by (told (file.Commit o.commit.generation)) refl)
  where
    by : (t : Told) → told (file.Commit o.commit.generation) ≡ t → (text : Text) × (image (file.Commit o.commit.generation) ≡ Some text)
    by None e = absurd (tells (file.Commit o.commit.generation) e)
    by (Some content) e =
        let there = o.stands.file.there content e in
        let needed : has_name (Name.commit o.commit.generation) (commit_needs o.commit) ≡ true =
        ap (λ b. b || has_name (Name.commit o.commit.generation) (flat_map listed_names o.commit.segments)) (same_again (Name.commit o.commit.generation)) in (
          there.0,
          o.settled (file.Commit o.commit.generation) needed content (image (file.Commit o.commit.generation)) e
              (crashed (file.Commit o.commit.generation)) ∙ there.1,
        )

module _ (told : ToldFiles) (left : FileName → FileContent → Type 0) (s : Shape) (from : Opened) (run : Run)
    (tells : (q : FileName) → told q ≢ None) (lasts : NewestLasts told left s) (stands : Stands told s from run) where
  pub newest_outlasts : NewestOutlasts told left s.users from run
  newest_outlasts g newest =
      let kept : is_kept from run g ≡ true =
      ap (λ o. is_newest o g || ltb 0 (snapshots run g)) newest ∙ ap (λ b. b || ltb 0 (snapshots run g)) (is_newest-self g) in
      let k = (promised_files_stand told s from run stands).kept g kept in
      let last = last_numbered s.commits g (newest_number told s from run stands ∙ newest) in
      let c : CommitFile = last.0 in
      let own = last_of_all (λ commit. (rs : List Record) × CommitStands told s.users commit rs) s.commits c
      (recursion_from_All (λ commit. (rs : List Record) × CommitStands told s.users commit rs) s.commits
      (needed_files_stand told s stands.ledger stands.files stands.carries).1) last.1 in
      let same : k.commit ≡ c =
      same_file told s.users tells k.commit c (table from.start (writes run) k.commit.token) own.0 (k.generation ∙ sym last.2) k.stands own.1 in record {
        commit = c;
        generation = last.2;
        text = subst (λ (x : CommitFile). x.text ≡ text_under (commits from run) g) same k.text;
        reaches = k.reaches ∙ ap (λ (x : CommitFile). Some x.token) same;
        stands = subst (λ (x : CommitFile). CommitStands told s.users x (table from.start (writes run) x.token)) same k.stands;
        settled = λ q is. lasts q (subst (λ o. has_name (name_of q) (needs_of o) ≡ true) (sym last.1) is);
      }
