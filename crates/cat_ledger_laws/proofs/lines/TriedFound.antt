-- The table that a crash leaves of a commit that was tried is the one that its files held.
use Rattle.std.proofs.Common.{◌≡◌, ℕ, Bool, true, false, ◌||◌, List, [], ◌∷◌, Some, refl, sym, ◌∙◌, ap, subst}
use Rattle.std.specs.List.{flat_map, AllByRecursion}
use Rattle.std.proofs.lemmas.List.Elements.{recursion_from_All}
use Rattle.cat_model.specs.CommitFile.{CommitFile, IsListed, listed_names}
use Rattle.cat_model.specs.Files.{Name}
use Rattle.cat_model.specs.Item.{Record, Schema}
use Rattle.cat_model.specs.Opens.{HoldsCommit}
use Rattle.cat_model.specs.Text.{Text}
use Rattle.cat_model.specs.Told.{FileContent, MayHave}
use Rattle.cat_directory.specs.Names.{file_of}
use Rattle.cat_directory.specs.declared.name.FileName.{FileName}
use Rattle.cat_ledger_laws.specs.model.Users.{has_name, same_file_name}
use Rattle.cat_ledger_laws.specs.shape.Tried.{LeavesTried, TriedCommit, tells_image, tried_lists}
use Rattle.cat_ledger_laws.proofs.shape.Told.{same_again}
use Rattle.cat_ledger_laws.proofs.shape.Tried as tried
use Rattle.cat_ledger_laws.specs.lines.TriedLaws.{LiveAreTold, SegmentsAreTold, TriedTablesAreFound, whole_files}
use Rattle.cat_ledger_laws.proofs.lines.SameTable.{Same, same_table}

in_second : (a b : Bool) → b ≡ true → (a || b) ≡ true
in_second true b e = refl
in_second false b e = e

in_first : (a b : Bool) → a ≡ true → (a || b) ≡ true
in_first true b e = refl
in_first false b e = absurd (let no : false ≡ true = e in cc)

-- what is so of each name that stands in the list is so along it
all_named : (P : Name → Type 0) (names : List Name) → ((q : Name) → has_name q names ≡ true → P q) → AllByRecursion P names
all_named P [] f = tt
all_named P (n ∷ names) f = (
  f n (in_first (same_file_name n n) (has_name n names) (same_again n)),
  all_named P names (λ q e. f q (in_second (same_file_name q n) (has_name q names) e)),
)

some_text : (a b : Text) → ◌≡◌ {A = FileContent} (Some a) (Some b) → a ≡ b
some_text a b e = cc

module _ (segments : SegmentsAreTold) (lives : LiveAreTold) (left : FileName → FileContent → Type 0) (t : TriedCommit) (schema : Schema) (records : List Record)
    (leaves : LeavesTried left t) (held : HoldsCommit (tells_image (whole_files t)) schema t.commit.generation t.commit records) (image : FileName → FileContent)
    (crashed : (q : FileName) → left q (image q)) (other : Schema) (c : CommitFile) (found : List Record)
    (holds : HoldsCommit (tells_image image) other t.commit.generation c found) where
  pub there : (c ≡ t.commit) × ((q : Name) → has_name q (tried_lists t) ≡ true → (bytes : Text) → image (file_of q) ≡ Some bytes → t.files (file_of q) ≡ Some bytes)
  there = tried.found left t image c leaves held.held.commit.spelled.form crashed holds.held.commit

  -- a file that it lists is no commit's
  whole : (q : Name) → has_name q (tried_lists t) ≡ true → whole_files t (file_of q) ≡ t.files (file_of q)
  whole (Name.segment n) e = refl
  whole (Name.source n) e = refl
  whole (Name.live n d) e = refl
  whole (Name.commit g) e =
      absurd (tried.no_commit_listed t.commit.segments t.commit.generation t.commit.next g
      (recursion_from_All (IsListed t.commit.generation t.commit.next) t.commit.segments held.held.commit.spelled.form.listed) e)

  same : (q : Name) → has_name q (tried_lists t) ≡ true → Same segments lives (tells_image image) (tells_image (whole_files t)) q
  same q e x y mine theirs = some_text x y (sym (there.1 q e x mine) ∙ sym (whole q e) ∙ theirs)

  fields : other ≡ schema
  fields = sym holds.held.fields ∙ ap (λ (d : CommitFile). d.schema) there.0 ∙ held.held.fields

  pub table : found ≡ records
  table =
      same_table segments lives (tells_image image) (tells_image (whole_files t)) schema t.commit.generation t.commit.generation t.commit found records
      (subst (λ (d : CommitFile). HoldsCommit (tells_image image) schema t.commit.generation d found) there.0
      (subst (λ (f : Schema). HoldsCommit (tells_image image) f t.commit.generation c found) fields holds))
      held (all_named (Same segments lives (tells_image image) (tells_image (whole_files t))) (tried_lists t) same)

pub tried_tables_are_found : {D : Type 0} (left : D → FileName → FileContent → Type 0) → TriedTablesAreFound left
tried_tables_are_found left segments lives d t schema records leaves held image crashed other c found holds = (
  (there segments lives (left d) t schema records leaves held image crashed other c found holds).0,
  table segments lives (left d) t schema records leaves held image crashed other c found holds,
)
