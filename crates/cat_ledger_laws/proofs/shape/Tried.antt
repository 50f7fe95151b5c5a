-- What was tried stays so, and what a crash leaves of it is what was tried.
use Rattle.std.proofs.Common.{◌≡◌, ◌⊎◌, ℕ, ◌+◌, ◌<◌, ◌≤◌, Bool, true, false, ◌||◌, cond, List, [], ◌∷◌, ◌++◌, map, Option, Some, None, refl, sym, ◌∙◌, ap, subst, arith, inl, inr}
use Rattle.std.specs.Prelude.{◌≢◌, ◌==◌, All}
use Rattle.std.specs.List.{flat_map, AllByRecursion}
use Rattle.std.proofs.lemmas.Bool.Decides.{eqb_tells}
use Rattle.std.proofs.lemmas.List.Elements.{recursion_from_All}
use Rattle.cat_model.specs.CommitFile.{CommitFile, IsCommitFile, IsListed, ListedSegment, SpellsCommit, listed_names, live_names, spelled_commit}
use Rattle.cat_model.specs.Files.{Name}
use Rattle.cat_model.specs.Restored.{HasCommit}
use Rattle.cat_model.specs.Text.{Text}
use Rattle.cat_model.specs.Told.{FileContent, MayHave}
use Rattle.cat_model.proofs.Lists.{list_any-append}
use Rattle.cat_directory.specs.Names.{file_of, name_of}
use Rattle.cat_directory.specs.declared.name.FileName.{FileName}
use Rattle.cat_directory.specs.declared.name.FileName.TheVariants as file
use Rattle.cat_ledger_laws.specs.model.Calls.{commit_of, newest_listed, portion_file_for}
use Rattle.cat_ledger_laws.specs.model.Ledger.{IsLedger, IsNew, IsOther, Ledger, NotOf, commit_file, listed_segment, names_of_portion}
use Rattle.cat_ledger_laws.specs.model.Portions.{Merging, Portion}
use Rattle.cat_ledger_laws.specs.model.Users.{has_name, same_file_name}
use Rattle.cat_ledger_laws.proofs.model.Counted.{same_name_is}
use Rattle.cat_ledger_laws.specs.shape.Shapes.{MergingShape, Shape, merging_of, merging_shape, shape_of}
use Rattle.cat_ledger_laws.specs.shape.Steps.{commit_file_now}
use Rattle.cat_ledger_laws.proofs.shape.Committed.{now_said}
use Rattle.cat_model.specs.Item.{Schema}
use Rattle.cat_ledger_laws.specs.shape.Tried.{HasTried, MakingIsApart, IsOfMaking, IsTriedCommit, LeavesTried, SparesTaken, TriedAreFound, TriedBegin, TriedCommit, TriedStay, TriesCommit, tells_image, tried_lists}
use Rattle.cat_ledger_laws.proofs.shape.Told.{file_of_name, name_of_file}
use Rattle.cat_ledger_laws.proofs.shape.Beginnings.{beginnings_are_no_commits}

-- ---- the names that a commit lists

either : (a b : Bool) → (a || b) ≡ true → (a ≡ true) ⊎ (b ≡ true)
either true b e = inl refl
either false b e = inr e

either_named : (q : Name) (xs ys : List Name) → has_name q (xs ++ ys) ≡ true → (has_name q xs ≡ true) ⊎ (has_name q ys ≡ true)
either_named q xs ys e = either (has_name q xs) (has_name q ys) (sym (list_any-append (same_file_name q) xs ys) ∙ e)

-- the name is that of a file of a listed segment
data IsOfListed (g next : ℕ) (P : ℕ → Type 0) : Name → Type 0 where
  segment : (n : ℕ) → n < next → P n → IsOfListed g next P (Name.segment n)
  source : (n : ℕ) → n < next → P n → IsOfListed g next P (Name.source n)
  live : (n d : ℕ) → d ≤ g → IsOfListed g next P (Name.live n d)

all_true : (xs : List ListedSegment) → AllByRecursion (λ x. Unit {0}) xs
all_true [] = tt
all_true (x ∷ xs) = (tt, all_true xs)

module _ (g next : ℕ) (P : ℕ → Type 0) where
  no_name : (q : Name) → has_name q [] ≡ true → ⊥
  no_name q e = let no : false ≡ true = e in cc

  of_one : (q n : Name) → has_name q (n ∷ []) ≡ true → q ≡ n
  of_one q n e = elim (either (same_file_name q n) false e) [ inl is ↦ same_name_is q n is | inr none ↦ absurd (no_name q none) ]

  of_live : (x : ListedSegment) (q : Name) → x.file ≤ g → (b : Bool) → has_name q (cond b [] (Name.live x.number x.file ∷ [])) ≡ true → IsOfListed g next P q
  of_live x q low true e = absurd (no_name q e)
  of_live x q low false e = subst (IsOfListed g next P) (sym (of_one q (Name.live x.number x.file) e)) (IsOfListed.live x.number x.file low)

  of_segment : (x : ListedSegment) (q : Name) → IsListed g next x → P x.number → has_name q (listed_names x) ≡ true → IsOfListed g next P q
  of_segment x q listed p e = elim (either (same_file_name q (Name.segment x.number)) (has_name q (Name.source x.number ∷ live_names x.number x.file)) e) [
    | inl is ↦ subst (IsOfListed g next P) (sym (same_name_is q (Name.segment x.number) is)) (IsOfListed.segment x.number listed.past p)
    | inr rest ↦ elim (either (same_file_name q (Name.source x.number)) (has_name q (live_names x.number x.file)) rest) [
      | inl is ↦ subst (IsOfListed g next P) (sym (same_name_is q (Name.source x.number) is)) (IsOfListed.source x.number listed.past p)
      | inr more ↦ of_live x q listed.file (x.file == 0) more
    ]
  ]

  of_listed : (xs : List ListedSegment) (q : Name) → AllByRecursion (IsListed g next) xs → AllByRecursion (λ x. P x.number) xs
      → has_name q (flat_map listed_names xs) ≡ true → IsOfListed g next P q
  of_listed [] q listed p e = absurd (no_name q e)
  of_listed (x ∷ xs) q listed p e = elim (either_named q (listed_names x) (flat_map listed_names xs) e) [
    | inl own ↦ of_segment x q listed.0 p.0 own
    | inr rest ↦ of_listed xs q listed.1 p.1 rest
  ]

-- no file of a commit is listed
pub no_commit_listed : (xs : List ListedSegment) (g next : ℕ) (n : ℕ) → AllByRecursion (IsListed g next) xs → has_name (Name.commit n) (flat_map listed_names xs) ≡ true → ⊥
no_commit_listed xs g next n listed e = none (of_listed g next (λ m. Unit {0}) xs (Name.commit n) listed (all_true xs) e)
  where
    none : IsOfListed g next (λ m. Unit {0}) (Name.commit n) → ⊥
    none o = elim o [ ]

-- what it lists has no new number,
old_listed : (g next n h : ℕ) (P : ℕ → Type 0) (q : Name) → next ≤ n → g < h → IsOfListed g next P q → IsNew n h q → ⊥
old_listed g next n h P q low less (IsOfListed.segment m past p) new = omega (arith, low, past, new)
old_listed g next n h P q low less (IsOfListed.source m past p) new = omega (arith, low, past, new)
old_listed g next n h P q low less (IsOfListed.live m d most) new = omega (arith, less, most, new)

-- and isn't the merge's
apart_listed : (g next : ℕ) (m : MergingShape) (q : FileName) → IsOfListed g next (λ n. n ≢ m.number) (name_of q) → IsOfMaking m q → ⊥
apart_listed g next m q of (inl is) = by (subst (λ f. IsOfListed g next (λ n. n ≢ m.number) (name_of f)) is of)
  where
    by : IsOfListed g next (λ n. n ≢ m.number) (Name.segment m.number) → ⊥
    by (IsOfListed.segment n past p) = p refl
apart_listed g next m q of (inr is) = by (subst (λ f. IsOfListed g next (λ n. n ≢ m.number) (name_of f)) is of)
  where
    by : IsOfListed g next (λ n. n ≢ m.number) (Name.source m.number) → ⊥
    by (IsOfListed.source n past p) = p refl

-- ---- steps

unwritten : (e : FileContent) → e ≡ None → (bytes : Text) → e ≡ Some bytes → ⊥
unwritten e none bytes some = let no : ◌≡◌ {A = FileContent} None (Some bytes) = sym none ∙ some in cc

module _ (left left' : FileName → FileContent → Type 0) (s new : Shape) (t : TriedCommit) (spares : SparesTaken left left' s new) (tried : IsTriedCommit left s t) where
  forms : AllByRecursion (IsListed t.commit.generation t.commit.next) t.commit.segments
  forms = recursion_from_All (IsListed t.commit.generation t.commit.next) t.commit.segments tried.taken.form.listed

  own_old : IsNew s.next_segment s.next_generation (Name.commit t.commit.generation) → ⊥
  own_old new = let less : t.commit.generation < s.next_generation = tried.taken.generation in omega (arith, less, new)

  own_apart : (m : MergingShape) → s.merging ≡ Some m → IsOfMaking m (file.Commit t.commit.generation) → ⊥
  own_apart m making (inl is) = absurd (let no : ◌≡◌ {A = FileName} (file.Commit t.commit.generation) (file.Segment m.number) = is in cc)
  own_apart m making (inr is) = absurd (let no : ◌≡◌ {A = FileName} (file.Commit t.commit.generation) (file.Source m.number) = is in cc)

  own_before : (e : FileContent) → left' (file.Commit t.commit.generation) e → left (file.Commit t.commit.generation) e ⊎ (e ≡ None)
  own_before e after = spares.files (file.Commit t.commit.generation) own_old own_apart e after

  listed_before : (q : FileName) → has_name (name_of q) (tried_lists t) ≡ true → (e : FileContent) → left' q e → left q e ⊎ (e ≡ None)
  listed_before q has e after = spares.files q
      (old_listed t.commit.generation t.commit.next s.next_segment s.next_generation (λ n. Unit {0}) (name_of q) tried.taken.next tried.taken.generation
      (of_listed t.commit.generation t.commit.next (λ n. Unit {0}) t.commit.segments (name_of q) forms (all_true t.commit.segments) has))
      (λ m making. apart_listed t.commit.generation t.commit.next m q
      (of_listed t.commit.generation t.commit.next (λ n. n ≢ m.number) t.commit.segments (name_of q) forms (tried.taken.apart m making) has)) e after

  leaves_still : LeavesTried left' t
  leaves_still = record {
    own = λ e after. elim (own_before e after) [ inl before ↦ tried.leaves.own e before | inr gone ↦ inl gone ];
    listed = λ bytes there q has e after. elim (own_before (Some bytes) there) [
      | inl before ↦ elim (listed_before q has e after) [ inl might ↦ tried.leaves.listed bytes before q has e might | inr gone ↦ inl gone ]
      | inr gone ↦ absurd (unwritten (Some bytes) gone bytes refl)
    ];
  }

  other_number : (n : ℕ) (xs : List ListedSegment) → AllByRecursion (IsListed t.commit.generation t.commit.next) xs → s.next_segment ≤ n
      → AllByRecursion (λ x. x.number ≢ n) xs
  other_number n [] listed past = tt
  other_number n (x ∷ xs) listed past = (
    (λ same. let less : x.number < t.commit.next = listed.0.past in let low : t.commit.next ≤ s.next_segment = tried.taken.next in omega (arith, same, less, low, past)),
    other_number n xs listed.1 past,
  )

  taken_still : HasTried new t
  taken_still = record {
    form = tried.taken.form;
    next = let low : t.commit.next ≤ s.next_segment = tried.taken.next in let more : s.next_segment ≤ new.next_segment = spares.segments in omega (arith, low, more);
    generation = let low : t.commit.generation < s.next_generation = tried.taken.generation in let more : s.next_generation ≤ new.next_generation = spares.generations in omega (arith, low, more);
    apart = λ m making. elim (spares.merging m making) [
      | inl old ↦ subst (λ n. AllByRecursion (λ x. x.number ≢ n) t.commit.segments) (sym old.2) (tried.taken.apart old.0 old.1)
      | inr fresh ↦ other_number m.number t.commit.segments forms fresh
    ];
  }

  stays : IsTriedCommit left' new t
  stays = record { leaves = leaves_still; taken = taken_still }

pub tried_stay : {D : Type 0} (left : D → FileName → FileContent → Type 0) → TriedStay left
tried_stay left d d' s new t spares tried = stays (left d) (left d') s new t spares tried

begins : (left left' : FileName → FileContent → Type 0) (s new : Shape) (t : TriedCommit) → TriesCommit left left' s new t → IsTriedCommit left' new t
begins left left' s new t tries = record {
  leaves = record {
    own = λ e after. elim (tries.torn e (at e after)) [ inl before ↦ inl (tries.fresh e before) | inr torn ↦ torn ];
    listed = λ bytes there q has e after. elim tries.order [
      | inl spared ↦ absurd (unwritten (Some bytes) (tries.fresh (Some bytes) (spared (Some bytes) (at (Some bytes) there))) bytes refl)
      | inr settled ↦ inr (settled q has e after)
    ];
  };
  taken = record {
    form = tries.form;
    next = tries.next;
    generation = let same : t.commit.generation ≡ s.next_generation = tries.generation in let less : s.next_generation < new.next_generation = tries.taken in omega (arith, same, less);
    apart = tries.apart;
  };
}
  where
    at : (e : FileContent) → left' (file.Commit t.commit.generation) e → left' (file.Commit s.next_generation) e
    at e after = subst (λ n. left' (file.Commit n) e) tries.generation after

pub tried_begin : {D : Type 0} (left : D → FileName → FileContent → Type 0) → TriedBegin left
tried_begin left d d' s new t tries = begins (left d) (left d') s new t tries

-- ---- the merge in the making

one_shape : (a b : MergingShape) → ◌≡◌ {A = Option MergingShape} (Some a) (Some b) → a ≡ b
one_shape a b e = cc

-- the merge that a shape has is one of the ledger
pub merge_of : (schema : Schema) (o : Option Merging) (m : MergingShape) → merging_shape schema o ≡ Some m → (n : Merging) × (o ≡ Some n) × (m.number ≡ n.number)
merge_of schema None m e = absurd (let no : ◌≡◌ {A = Option MergingShape} None (Some m) = e in cc)
merge_of schema (Some n) m e = (n, refl, ap (λ (x : MergingShape). x.number) (sym (one_shape (merging_of schema n) m e)))

numbers_apart : (n : ℕ) (f : Portion → ℕ) (ps : List Portion) → AllByRecursion (IsOther n) (flat_map names_of_portion ps)
    → AllByRecursion (λ x. x.number ≢ n) (map listed_segment (map (λ p. record { portion = p; file = f p }) ps))
numbers_apart n f [] a = tt
numbers_apart n f (p ∷ ps) a = (a.0, numbers_apart n f ps a.1.1)

of_ledger : (text : Text) (l : Ledger) (m : MergingShape) → IsLedger l → merging_shape l.schema l.merging ≡ Some m
    → AllByRecursion (λ x. x.number ≢ m.number) (commit_file l.schema (commit_of text l)).segments
of_ledger text l m ok making =
    let own = merge_of l.schema l.merging m making in
    subst (λ n. AllByRecursion (λ (x : ListedSegment). x.number ≢ n) (commit_file l.schema (commit_of text l)).segments) (sym own.2)
    (numbers_apart own.0.number (portion_file_for (newest_listed l.commits) l.next_generation) l.portions
    (subst (λ o. AllByRecursion (NotOf o) (flat_map names_of_portion l.portions)) own.1 ok.alone.portions))

pub making_is_apart : MakingIsApart
making_is_apart text s m its making =
    subst (λ (x : Shape). AllByRecursion (λ (y : ListedSegment). y.number ≢ m.number) (commit_file_now text x).segments) its.1
    (subst (λ (c : CommitFile). AllByRecursion (λ (y : ListedSegment). y.number ≢ m.number) c.segments) (sym (now_said text its.0))
    (of_ledger text its.0 m its.2 (ap (λ (x : Shape). x.merging) its.1 ∙ making)))

-- ---- what is found

some_text : (a b : Text) → ◌≡◌ {A = FileContent} (Some a) (Some b) → a ≡ b
some_text a b e = cc

pub found : (left : FileName → FileContent → Type 0) (t : TriedCommit) (image : FileName → FileContent) (d : CommitFile) → LeavesTried left t → IsCommitFile t.commit
    → ((q : FileName) → left q (image q)) → HasCommit (MayHave (tells_image image)) t.commit.generation d
    → (d ≡ t.commit) × ((q : Name) → has_name q (tried_lists t) ≡ true → (bytes : Text) → image (file_of q) ≡ Some bytes → t.files (file_of q) ≡ Some bytes)
found left t image d leaves form crashed has =
    let own : image (file.Commit t.commit.generation) ≡ Some has.bytes = has.there in
    let may : left (file.Commit t.commit.generation) (Some has.bytes) = subst (left (file.Commit t.commit.generation)) own (crashed (file.Commit t.commit.generation)) in
    elim (leaves.own (Some has.bytes) may) [
      | inl gone ↦ absurd (unwritten (Some has.bytes) gone has.bytes refl)
      | inr torn ↦ (
        (beginnings_are_no_commits has.bytes torn.2 t.commit d form has.spelled (ap (λ b. b ++ torn.2) (some_text has.bytes torn.0 torn.1) ∙ torn.3)).0,
        λ q listed bytes there. elim (leaves.listed has.bytes may (file_of q) (subst (λ n. has_name n (tried_lists t) ≡ true) (sym (name_of_file q)) listed) (Some bytes) (subst (left (file_of q)) there (crashed (file_of q)))) [
          | inl gone ↦ absurd (unwritten (Some bytes) gone bytes refl)
          | inr same ↦ sym same
        ],
      )
    ]

pub tried_are_found : {D : Type 0} (left : D → FileName → FileContent → Type 0) → TriedAreFound left
tried_are_found left d t image c leaves form crashed has = found (left d) t image c leaves form crashed has
