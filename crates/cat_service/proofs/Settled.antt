-- What a crash leaves of the newest commit, in the model's words.
use Rattle.std.proofs.Common.{◌≡◌, ◌≢◌, ℕ, List, [], ◌∷◌, Bool, true, false, ◌&&◌, ◌||◌, refl, sym, ◌∙◌, ap, ap₂, subst, eq-eqb, arith}
use Rattle.std.specs.Prelude.{Contains, Some, None, ltb}
use Rattle.std.specs.List.{AllByRecursion}
use Rattle.std.proofs.lemmas.List.Elements.{All-contains, All-from_recursion}
use Rattle.cat_model.specs.CommitFile.{CommitFile, SpellsCommit, commit_needs}
use Rattle.cat_model.specs.Files.{Name}
use Rattle.cat_model.specs.Promised.{HoldsGeneration, NewestIsSettled}
use Rattle.cat_model.specs.Restored.{HasCommit}
use Rattle.cat_model.specs.Run.{Run, is_kept, newest_commit, snapshots}
use Rattle.cat_model.specs.State.{is_newest}
use Rattle.cat_model.specs.Table.{Opened}
use Rattle.cat_model.specs.Text.{Text}
use Rattle.cat_model.specs.Told.{MayHave}
use Rattle.cat_model.proofs.CommitFiles.{commits_are_told_by_their_bytes}
use Rattle.cat_model.proofs.Commits.{is_newest-self}
use Rattle.cat_directory.specs.Devices.{FileContent, Told}
use Rattle.cat_directory.specs.Names.{file_of}
use Rattle.cat_directory.specs.declared.name.FileName.{FileName}
use Rattle.cat_directory.specs.declared.name.FileName.TheVariants as file
use Rattle.cat_commands.specs.cat_ledger.Histories.{IsCrashed}
use Rattle.cat_commands.specs.cat_ledger.Lasting.{NewestLasts}
use Rattle.cat_ledger_laws.specs.lines.RunLaws.{Stands}
use Rattle.cat_ledger_laws.specs.model.Users.{Used, has_name, same_file_name}
use Rattle.cat_ledger_laws.specs.shape.Shapes.{Shape}
use Rattle.cat_ledger_laws.specs.shape.Ties.{IsTold, ToldFiles}
use Rattle.cat_ledger_laws.proofs.lines.Held.{promised_are_held}
use Rattle.cat_ledger_laws.proofs.shape.Told.{name_of_file}
use Rattle.cat_service.proofs.Opens.{named}
use Rattle.cat_service.proofs.Outlasted.{newest_outlasts, one_text}
use Rattle.cat_service.specs.Outlasting.{Outlasts}

-- ---- names

same_name : (q : Name) → same_file_name q q ≡ true
same_name (Name.segment a) = eq-eqb a a refl
same_name (Name.source a) = eq-eqb a a refl
same_name (Name.live a d) = ap₂ (λ (x y : Bool). x && y) (eq-eqb a a refl) (eq-eqb d d refl)
same_name (Name.commit g) = eq-eqb g g refl

or_true : (b : Bool) → (b || true) ≡ true
or_true true = refl
or_true false = refl

more_names : (m : Name) (all ns : List Name) → AllByRecursion (λ n. has_name n all ≡ true) ns → AllByRecursion (λ n. has_name n (m ∷ all) ≡ true) ns
more_names m all [] a = tt
more_names m all (n ∷ ns) a = (ap (λ b. same_file_name n m || b) a.0 ∙ or_true (same_file_name n m), more_names m all ns a.1)

own_names : (ns : List Name) → AllByRecursion (λ n. has_name n ns ≡ true) ns
own_names [] = tt
own_names (n ∷ ns) = (ap (λ b. b || has_name n ns) (same_name n), more_names n ns ns (own_names ns))

-- a name that is in a list is found there
pub contained : (ns : List Name) (q : Name) → Contains ns q → has_name q ns ≡ true
contained ns q c = All-contains (λ n. has_name n ns ≡ true) ns q (All-from_recursion (λ n. has_name n ns ≡ true) ns (own_names ns)) c

-- ---- the newest commit

-- the newest commit is kept
pub kept_newest : (from : Opened) (run : Run) (g : ℕ) → newest_commit from run ≡ Some g → is_kept from run g ≡ true
kept_newest from run g newest =
    ap (λ o. is_newest o g || ltb 0 (snapshots run g)) newest ∙ ap (λ b. b || ltb 0 (snapshots run g)) (is_newest-self g)

-- two commits of one generation that one file holds are one
one_commit : (told : ToldFiles) (left : FileName → FileContent → Type 0) (users : List Used) (from : Opened) (run : Run) (g : ℕ)
    → ((q : FileName) → told q ≢ None) → (here : HoldsGeneration (named told) from run g) (o : Outlasts told left users from run g)
    → here.commit ≡ o.commit
one_commit told left users from run g tells here o = by (told (file.Commit g)) refl here.held.held.commit.there
  where
    by : (t : Told) → told (file.Commit g) ≡ t → IsTold t (Some here.held.held.commit.bytes) → here.commit ≡ o.commit
    by None e is = absurd (tells (file.Commit g) e)
    by (Some content) e is =
        let two = o.stands.file.there content (ap (λ n. told (file.Commit n)) o.generation ∙ e) in
        let bytes : here.held.held.commit.bytes ≡ two.0 = one_text here.held.held.commit.bytes two.0 (sym is ∙ two.1) in
        commits_are_told_by_their_bytes two.0 here.commit o.commit (subst (λ x. SpellsCommit x here.commit) bytes here.held.held.commit.spelled) two.2

-- Where the files of the newest commit last, so it is in the model's words.
pub newest_settled : (told : ToldFiles) (left : FileName → FileContent → Type 0) (s : Shape) (from : Opened) (run : Run) → s.schema ≡ from.start.schema
    → ((q : FileName) → told q ≢ None) → NewestLasts told left s → Stands told s from run → NewestIsSettled (named told) (λ q. left (file_of q)) from run
newest_settled told left s from run same tells lasts stands g newest =
    let here = (promised_are_held told s from run same stands).kept g (kept_newest from run g newest) in
    let o = newest_outlasts told left s from run tells lasts stands g newest in
    let one : here.commit ≡ o.commit = one_commit told left s.users from run g tells here o in (
      here,
      λ q has. o.settled (file_of q)
          (subst (λ n. has_name n (commit_needs o.commit) ≡ true) (sym (name_of_file q))
          (subst (λ (c : CommitFile). has_name q (commit_needs c) ≡ true) one (contained (commit_needs here.commit) q has))),
    )

-- The own file of the newest commit is there after a crash.
pub own_left : (told : ToldFiles) (left : FileName → FileContent → Type 0) (from : Opened) (run : Run) (g : ℕ) → ((q : FileName) → told q ≢ None)
    → NewestIsSettled (named told) (λ q. left (file_of q)) from run → newest_commit from run ≡ Some g → (image : FileName → FileContent) → IsCrashed left image
    → (text : Text) × (image (file.Commit g) ≡ Some text)
own_left told left from run g tells settled newest image crashed = by (told (file.Commit g)) refl own.there
  where
    here : HoldsGeneration (named told) from run g
    here = (settled g newest).0

    own : HasCommit (MayHave (named told)) g here.commit
    own = here.held.held.commit

    needed : Contains (commit_needs here.commit) (Name.commit g)
    needed = subst (λ n. Contains (commit_needs here.commit) (Name.commit n)) own.number (0, omega arith, refl)

    by : (t : Told) → told (file.Commit g) ≡ t → IsTold t (Some own.bytes) → (text : Text) × (image (file.Commit g) ≡ Some text)
    by None e is = absurd (tells (file.Commit g) e)
    by (Some content) e is = (own.bytes, (settled g newest).1 (Name.commit g) needed content (image (file.Commit g)) e (crashed (file.Commit g)) ∙ is)
