-- The files that a restored commit needs: they may be there, nobody uses others, and their numbers were taken.
use Rattle.std.proofs.Common.{◌≡◌, ◌≢◌, ℕ, zero, suc, ◌+◌, ◌<◌, ◌≤◌, List, [], ◌∷◌, ◌++◌, map, Bool, true, false, cond, ◌||◌, Some, None, refl, sym, ◌∙◌, ap, subst, inl, inr, arith}
use Rattle.std.specs.Prelude.{◌⊎◌, ◌==◌, All, Contains, max}
use Rattle.std.specs.List.{AllByRecursion, flat_map}
use Rattle.std.proofs.lemmas.Bool.Decides.{eqb_tells}
use Rattle.std.proofs.lemmas.List.Elements.{All-from_recursion, recursion_from_All}
use Rattle.std.proofs.lemmas.List.Folds.{list_any-append}
use Rattle.std.proofs.Math.Nat.{le-max_right}
use Rattle.cat_model.proofs.Lists.{All-both}
use Rattle.cat_model.specs.Text.{Text}
use Rattle.cat_model.specs.Item.{Schema}
use Rattle.cat_model.specs.Files.{Name}
use Rattle.cat_model.specs.CommitFile.{ListedSegment, IsListed, IsCommitFile, listed_names, live_names, commit_needs}
use Rattle.cat_model.specs.View.{Leaf, needs}
use Rattle.cat_directory.specs.declared.name.FileName.{FileName}
use Rattle.cat_directory.specs.Devices.{Told}
use Rattle.cat_directory.specs.Names.{name_of}
use Rattle.cat_lifetimes.proofs.refs.Named.{count_by-cons}
use Rattle.cat_ledger_laws.specs.model.Users.{Used, users_of, same_file_name, times, has_name}
use Rattle.cat_ledger_laws.specs.model.Ledger.{IsPast, IsTaken}
use Rattle.cat_ledger_laws.specs.model.Opening.{Restored, HasLiveFile, IsLeafOf, AreLeavesOf, IsRestored}
use Rattle.cat_ledger_laws.proofs.model.Counted.{same_name_is}
use Rattle.cat_ledger_laws.specs.shape.Shapes.{names_of_leaves}
use Rattle.cat_ledger_laws.specs.shape.Ties.{file_of, ToldFiles, IsTold}
use Rattle.cat_ledger_laws.specs.shape.OpeningLaws.{IsCountedAt, MayHold, view_at}
use Rattle.cat_ledger_laws.proofs.shape.Told.{file_of_name}
use Rattle.cat_ledger_state.proofs.startup.Listing.{contained}

or_second : (a b : Bool) → b ≡ true → (a || b) ≡ true
or_second true b e = refl
or_second false b e = e

or_either : (a b : Bool) → (a || b) ≡ true → (a ≡ true) ⊎ (b ≡ true)
or_either true b e = inl refl
or_either false b e = inr e

or_more : (a b c : Bool) → (b ≡ true → c ≡ true) → (a || b) ≡ true → (a || c) ≡ true
or_more true b c f e = refl
or_more false b c f e = f e

-- what holds of all names holds of one that is among them
pub of_named : (P : Name → Type 0) (q : Name) (names : List Name) → AllByRecursion P names → has_name q names ≡ true → P q
of_named P q [] a e = absurd (let no : false ≡ true = e in cc)
of_named P q (x ∷ xs) a e = elim (or_either (same_file_name q x) (has_name q xs) e) [
  | inl h ↦ subst P (sym (same_name_is q x h)) a.0
  | inr h ↦ of_named P q xs a.1 h
]

-- ---- they may be there

-- the file isn't told to be absent
abbrev pub MayBe : ToldFiles → Name → Type 0
MayBe told q = told (file_of q) ≢ Some None

bytes_there : (t : Told) (bytes : Text) → IsTold t (Some bytes) → t ≢ Some None
bytes_there None bytes may e = absurd (let no : None ≡ Some None = e in cc)
bytes_there (Some content) bytes may e = absurd (let is : content ≡ Some bytes = may in let gone : Some content ≡ Some None = e in cc)

module _ (told : ToldFiles) where
  live_there : (x : ListedSegment) (live : List Bool) (P : Type 0) (b : Bool) → cond b P (HasLiveFile (MayHold told) x live)
      → AllByRecursion (MayBe told) (cond b [] (Name.live x.number x.file ∷ []))
  live_there x live P true h = tt
  live_there x live P false h = (bytes_there (told (file_of (Name.live x.number x.file))) h.bytes h.there, tt)

  leaf_there : (schema : Schema) (x : ListedSegment) (leaf : Leaf) → IsLeafOf (MayHold told) schema x leaf → AllByRecursion (MayBe told) (listed_names x)
  leaf_there schema x leaf is = (
    subst (λ n. MayBe told (Name.segment n)) is.number (bytes_there (told (file_of (Name.segment leaf.segment.number))) is.segment.bytes is.segment.there),
    (
      subst (λ n. MayBe told (Name.source n)) is.number (bytes_there (told (file_of (Name.source leaf.segment.number))) is.sources.bytes is.sources.there),
      live_there x leaf.live _ (x.file == 0) is.live,
    ),
  )

  leaves_there : (schema : Schema) (xs : List ListedSegment) (leaves : List Leaf) → AreLeavesOf (MayHold told) schema xs leaves
      → AllByRecursion (MayBe told) (flat_map listed_names xs)
  leaves_there schema [] leaves a = tt
  leaves_there schema (x ∷ xs) [] a = absurd a
  leaves_there schema (x ∷ xs) (leaf ∷ leaves) a =
      All-both (MayBe told) (listed_names x) (flat_map listed_names xs) (leaf_there schema x leaf a.0) (leaves_there schema xs leaves a.1)

  all_there : (schema : Schema) (g : ℕ) (r : Restored) → IsRestored (MayHold told) schema g r → AllByRecursion (MayBe told) (commit_needs r.commit)
  all_there schema g r is = (
    subst (λ n. MayBe told (Name.commit n)) (sym is.commit.number) (bytes_there (told (file_of (Name.commit g))) is.commit.bytes is.commit.there),
    leaves_there schema r.commit.segments r.leaves is.leaves,
  )

  -- none of the names that a restored commit needs is told to be absent
  pub needed_there : (schema : Schema) (g : ℕ) (r : Restored) → IsRestored (MayHold told) schema g r
      → (q : FileName) → has_name (name_of q) (commit_needs r.commit) ≡ true → told q ≢ Some None
  needed_there schema g r is q there =
      subst (λ f. told f ≢ Some None) (file_of_name q) (of_named (MayBe told) (name_of q) (commit_needs r.commit) (all_there schema g r is) there)

-- ---- nobody uses others

pub some_named : (q : Name) (names : List Name) → 0 < times q names → has_name q names ≡ true
some_named q [] some = absurd (omega (arith, some))
some_named q (x ∷ xs) some = by (same_file_name q x) (count_by-cons (same_file_name q) x xs) (some_named q xs)
  where
    by : (b : Bool) → times q (x ∷ xs) ≡ cond b 1 0 + times q xs → (0 < times q xs → has_name q xs ≡ true) → (b || has_name q xs) ≡ true
    by true e rest = refl
    by false e rest = rest (omega (arith, some, e))

leaves_named : (holds : Name → Text → Type 0) (schema : Schema) (xs : List ListedSegment) (leaves : List Leaf) (q : Name) → AreLeavesOf holds schema xs leaves
    → has_name q (names_of_leaves leaves) ≡ true → has_name q (flat_map listed_names xs) ≡ true
leaves_named holds schema [] [] q a e = e
leaves_named holds schema [] (leaf ∷ leaves) q a e = absurd a
leaves_named holds schema (x ∷ xs) [] q a e = absurd a
leaves_named holds schema (x ∷ xs) (leaf ∷ leaves) q a e =
    let behind : has_name q (names_of_leaves leaves) ≡ true → has_name q (live_names x.number x.file ++ flat_map listed_names xs) ≡ true
    = λ h. list_any-append (same_file_name q) (live_names x.number x.file) (flat_map listed_names xs)
    ∙ or_second (has_name q (live_names x.number x.file)) (has_name q (flat_map listed_names xs)) (leaves_named holds schema xs leaves q a.1 h) in
    let own : (same_file_name q (Name.segment x.number) || (same_file_name q (Name.source x.number) || has_name q (names_of_leaves leaves))) ≡ true
    = subst (λ n. (same_file_name q (Name.segment n) || (same_file_name q (Name.source n) || has_name q (names_of_leaves leaves))) ≡ true) a.0.number e in
    or_more (same_file_name q (Name.segment x.number)) _ _ (or_more (same_file_name q (Name.source x.number)) _ _ behind) own

-- a name that somebody uses is one that the commit needs
pub used_needed : (holds : Name → Text → Type 0) (schema : Schema) (g n d : ℕ) (r : Restored) (us : List Used) → IsRestored holds schema g r → IsCountedAt schema r us n d
    → (q : Name) → 0 < users_of us q → has_name q (commit_needs r.commit) ≡ true
used_needed holds schema g n d r us is counted q some = by (has_name q (names_of_leaves r.leaves)) refl (has_name q (commit_needs r.commit)) refl
  where
    users : users_of us q ≡ times q (names_of_leaves r.leaves) + (times q (needs (view_at schema r)) + times q (commit_needs r.commit))
    users = counted.users q

    standing : has_name q (names_of_leaves r.leaves) ≡ true → has_name q (commit_needs r.commit) ≡ true
    standing e = or_second (same_file_name q (Name.commit r.commit.generation)) (has_name q (flat_map listed_names r.commit.segments))
        (leaves_named holds schema r.commit.segments r.leaves q is.leaves e)

    none : (names : List Name) → has_name q names ≡ false → times q names ≡ 0
    none names e = at (times q names) (some_named q names)
      where
        at : (k : ℕ) → (0 < k → has_name q names ≡ true) → k ≡ 0
        at zero f = refl
        at (suc k) f = absurd (let yes : has_name q names ≡ true = f (omega arith) in let no : true ≡ false = sym yes ∙ e in cc)

    by : (a : Bool) → has_name q (names_of_leaves r.leaves) ≡ a → (b : Bool) → has_name q (commit_needs r.commit) ≡ b → has_name q (commit_needs r.commit) ≡ true
    by true e b f = standing e
    by false e true f = f
    by false e false f =
        let view : times q (needs (view_at schema r)) ≡ 0 = none (names_of_leaves r.leaves) e in
        absurd (omega (arith, some, users, none (names_of_leaves r.leaves) e, view, none (commit_needs r.commit) f))

-- so it is among the files that are synced
pub used_synced : (holds : Name → Text → Type 0) (schema : Schema) (g n d : ℕ) (r : Restored) (us : List Used) (needed : List FileName) → IsRestored holds schema g r
    → IsCountedAt schema r us n d → map name_of needed ≡ commit_needs r.commit → (q : FileName) → 0 < users_of us (name_of q) → Contains needed q
used_synced holds schema g n d r us needed is counted names q some =
    contained needed q (ap (has_name (name_of q)) names ∙ used_needed holds schema g n d r us is counted (name_of q) some)

-- ---- their numbers were taken

live_past : (n g : ℕ) (x : ListedSegment) → IsTaken n x.number → x.file < g → AllByRecursion (IsPast n g) (live_names x.number x.file)
live_past n g x taken less = by (x.file == 0) (eqb_tells x.file 0)
  where
    by : (b : Bool) → ((b ≡ true) × (x.file ≡ 0)) ⊎ ((b ≡ false) × (x.file ≢ 0)) → AllByRecursion (IsPast n g) (cond b [] (Name.live x.number x.file ∷ []))
    by true k = tt
    by false (inl k) = absurd (let no : false ≡ true = k.0 in cc)
    by false (inr k) = ((taken, (omega (arith, k.1), less)), tt)

pub listed_past : (n g next generation : ℕ) → next ≤ n → generation < g → (xs : List ListedSegment) → AllByRecursion (IsListed generation next) xs
    → AllByRecursion (IsPast n g) (flat_map listed_names xs)
listed_past n g next generation low less [] a = tt
listed_past n g next generation low less (x ∷ xs) a =
    let taken : IsTaken n x.number = (omega (arith, a.0.positive), omega (arith, a.0.past, low)) in (
      taken,
      (
        taken,
        All-both (IsPast n g) (live_names x.number x.file) (flat_map listed_names xs) (live_past n g x taken (omega (arith, a.0.file, less)))
            (listed_past n g next generation low less xs a.1),
      ),
    )

-- where the next numbers are above the commit's, they are above those of each name that it needs
pub needed_past : (holds : Name → Text → Type 0) (schema : Schema) (generation first n g : ℕ) (r : Restored) → IsRestored holds schema generation r → n ≡ max first r.commit.next
    → IsTaken g generation → All (IsPast n g) (commit_needs r.commit)
needed_past holds schema generation first n g r is at taken =
    let form : IsCommitFile r.commit = is.commit.spelled.form in
    let low : r.commit.next ≤ n = omega (arith, at, le-max_right first r.commit.next) in
    let own : IsTaken g r.commit.generation = subst (IsTaken g) (sym is.commit.number) taken in
    All-from_recursion (IsPast n g) (commit_needs r.commit)
    (own, listed_past n g r.commit.next r.commit.generation low own.1 r.commit.segments (recursion_from_All (IsListed r.commit.generation r.commit.next) r.commit.segments form.listed))
