-- What a commit of now lists and begins, over shapes.
use Rattle.std.proofs.Common.{◌≡◌, ◌≢◌, ℕ, ◌+◌, ◌<◌, ◌≤◌, List, [], ◌∷◌, map, filter, length, Bool, true, false, ◌||◌, cond, Option, Some, None, refl, sym, ◌∙◌, ap, subst, arith, inl, inr}
use Rattle.std.specs.Prelude.{◌⊎◌, ◌==◌, All, AllPairs}
use Rattle.std.specs.List.{flat_map, count_by, last_or, AllByRecursion}
use Rattle.std.proofs.lemmas.Bool.Decides.{eqb_tells}
use Rattle.std.proofs.lemmas.List.Elements.{All-from_recursion}
use Rattle.std.proofs.lemmas.List.Sums.{sum_by-append, count_by-le-length}
use Rattle.cat_model.specs.Item.{Schema}
use Rattle.cat_model.specs.Files.{Name, IsFileName, IsFileNumber}
use Rattle.cat_model.specs.Limits.{last_number, row_limit}
use Rattle.cat_model.specs.LiveFile.{AreLiveRows}
use Rattle.cat_model.specs.CommitFile.{listed_names}
use Rattle.cat_model.specs.View.{Leaf}
use Rattle.cat_model.proofs.Lists.{All-weaken, All-both, list_any-append}
use Rattle.cat_ledger_laws.specs.model.Portions.{Portion, Apart, leaf_of}
use Rattle.cat_ledger_laws.specs.model.Users.{same_file_name, has_name, users_of, times}
use Rattle.cat_ledger_laws.specs.model.Ledger.{Listed, LedgerCommit, Ledger, IsLedger, IsNew, IsWholeCommit, commit_file, names_of_portion, names_of_commit}
use Rattle.cat_ledger_laws.specs.model.Calls.{all_alive, listed_in, newest_listed, commits_that}
use Rattle.cat_ledger_laws.proofs.model.Users.{All-split}
use Rattle.cat_ledger_laws.proofs.model.Views.{times-parted}
use Rattle.cat_ledger_laws.proofs.model.Shown.{All-map, Apart-map}
use Rattle.cat_ledger_laws.proofs.model.Commits.{AllPairs-from_Apart}
use Rattle.cat_ledger_laws.proofs.model.Written.{used_may_be_named}
use Rattle.cat_ledger_laws.specs.shape.Shapes.{ListedLive, Shape, shape_of, listed_live, names_of_commits}
use Rattle.cat_ledger_laws.specs.shape.Steps.{file_in, file_for, listed_now}
use Rattle.cat_ledger_laws.specs.shape.CommitLaws.{ListedDiffer, LiveMayBeWritten, LeavingAreCounted, NamesAreBegun, names_begun}
use Rattle.cat_ledger_laws.proofs.shape.Leaves.{map_filter}
use Rattle.cat_ledger_laws.proofs.shape.Committed.{commits_named, commits_are_counted}

-- ---- what the newest commit lists

Apart-unlisted : (xs : List Listed) → Apart (λ (p q : Portion). p.number ≢ q.number) (map (λ (x : Listed). x.portion) xs) → Apart (λ (x y : Listed). x.portion.number ≢ y.portion.number) xs
Apart-unlisted [] a = tt
Apart-unlisted (x ∷ xs) a = (unlisted xs a.0, Apart-unlisted xs a.1)
  where
    unlisted : (ys : List Listed) → AllByRecursion (λ (q : Portion). x.portion.number ≢ q.number) (map (λ (y : Listed). y.portion) ys) → AllByRecursion (λ (y : Listed). x.portion.number ≢ y.portion.number) ys
    unlisted [] a = tt
    unlisted (y ∷ ys) a = (a.0, unlisted ys a.1)

newest_apart : (schema : Schema) (count : ℕ) (o : Option LedgerCommit) (cs : List LedgerCommit) → Apart (λ (x y : Listed). x.portion.number ≢ y.portion.number) (listed_in o)
    → AllByRecursion (IsWholeCommit schema count) cs → Apart (λ (x y : Listed). x.portion.number ≢ y.portion.number) (listed_in (last_or o cs))
newest_apart schema count o [] h a = h
newest_apart schema count o (c ∷ cs) h a = newest_apart schema count (Some c) cs (Apart-unlisted c.listed a.0.1.portions.numbers) a.1

pub listed_differ : ListedDiffer
listed_differ s its =
    let l : Ledger = its.0 in
    subst (λ s. AllPairs (λ (a b : ListedLive). a.number ≢ b.number) s.listed) its.1
    (AllPairs-from_Apart (λ (a b : ListedLive). a.number ≢ b.number) (map listed_live (newest_listed l.commits))
    (Apart-map (λ (a b : ListedLive). a.number ≢ b.number) listed_live (newest_listed l.commits) (newest_apart l.schema l.count None l.commits tt its.2.commits)))

-- ---- new live files

count_by-cons : {X : Type 0} (p : X → Bool) (x : X) (xs : List X) → count_by p (x ∷ xs) ≡ cond (p x) 1 0 + count_by p xs
count_by-cons p x xs = sum_by-append (λ y. cond (p y) 1 0) (x ∷ []) xs ∙ ap (λ n. n + count_by p xs) (let z : (b : Bool) → 0 + cond b 1 0 ≡ cond b 1 0 = λ b. omega arith in z (p x))

some_dead : (live : List Bool) → all_alive live ≡ false → count_by (λ (b : Bool). b) live < length live
some_dead [] e = absurd (let no : true ≡ false = e in cc)
some_dead (true ∷ live) e = omega (arith, count_by-cons (λ (b : Bool). b) true live, some_dead live e)
some_dead (false ∷ live) e = omega (arith, count_by-cons (λ (b : Bool). b) false live, count_by-le-length (λ (b : Bool). b) live)

-- a leaf that gets a new file has dead rows
not_alive : (xs : List ListedLive) (g : ℕ) (leaf : Leaf) → 0 < g → file_for xs g leaf ≡ g → all_alive leaf.live ≡ false
not_alive xs g leaf some e = by (all_alive leaf.live) refl e
  where
    by : (b : Bool) → all_alive leaf.live ≡ b → cond b 0 (cond (file_in xs leaf == 0) g (file_in xs leaf)) ≡ g → all_alive leaf.live ≡ false
    by true h k = absurd (omega (arith, some, k))
    by false h k = h

numbered : (ps : List Portion) → AllByRecursion IsFileName (flat_map names_of_portion ps) → AllByRecursion (λ p. IsFileNumber p.number) ps
numbered [] a = tt
numbered (p ∷ ps) a = (a.0, numbered ps a.1.1)

abbrev MayBeWritten : Shape → Leaf → Type 0
MayBeWritten s leaf = file_for s.listed s.next_generation leaf ≡ s.next_generation → 1 ≤ length leaf.live → length leaf.live ≤ row_limit
    → AreLiveRows (record { number = leaf.segment.number; generation = s.next_generation; live = leaf.live })

pub live_may_be_written : LiveMayBeWritten
live_may_be_written s its = subst (λ s. s.next_generation ≤ last_number → All (MayBeWritten s) s.leaves) its.1 (λ left.
    let l : Ledger = its.0 in
    let ok : IsLedger l = its.2 in
    let names = All-split IsFileName (flat_map names_of_portion l.portions) _ (used_may_be_named l ok) in
    All-from_recursion (MayBeWritten (shape_of l)) (map (leaf_of l.schema) l.portions) (All-map (MayBeWritten (shape_of l)) (leaf_of l.schema) l.portions
    (All-weaken (λ p. IsFileNumber p.number) (λ p. MayBeWritten (shape_of l) (leaf_of l.schema p)) (λ p number new some few. record {
      number = number;
      generation = (ok.numbers.1, omega (arith, left));
      some = some;
      few = few;
      dead = some_dead p.live (not_alive (map listed_live (newest_listed l.commits)) l.next_generation (leaf_of l.schema p) ok.numbers.1 new);
    }) l.portions (numbered l.portions names.0))))

-- ---- commits that go

pub leaving_are_counted : LeavingAreCounted
leaving_are_counted s goes q its =
    let l : Ledger = its.0 in
    subst (λ s. times q (names_of_commits (filter (λ c. goes c.generation) s.commits)) ≤ users_of s.users q) its.1 (omega (
      arith,
      ap (λ cs. times q (names_of_commits cs)) (map_filter (commit_file l.schema) (λ c. goes c.generation) l.commits),
      ap (times q) (commits_named l.schema (commits_that goes l.commits)),
      ap (times q) (commits_named l.schema l.commits),
      times-parted q names_of_commit (λ c. goes c.generation) l.commits,
      commits_are_counted (shape_of l) (l, refl, its.2) q,
    ))

-- ---- names that are begun

abbrev begun_by : ℕ → ListedLive → List Name
begun_by g x = cond (x.file == g) (Name.live x.number x.file ∷ []) []

begun_new : (n g : ℕ) (xs : List ListedLive) → AllByRecursion (IsNew n g) (flat_map (begun_by g) xs)
begun_new n g [] = tt
begun_new n g (x ∷ xs) = All-both (IsNew n g) (begun_by g x) (flat_map (begun_by g) xs) (by (x.file == g) (eqb_tells x.file g)) (begun_new n g xs)
  where
    by : (b : Bool) → ((b ≡ true) × (x.file ≡ g)) ⊎ ((b ≡ false) × (x.file ≢ g)) → AllByRecursion (IsNew n g) (cond b (Name.live x.number x.file ∷ []) [])
    by true (inl e) = (omega (arith, e.1), tt)
    by true (inr e) = absurd (let no : true ≡ false = e.0 in cc)
    by false e = tt

or_true : (a b : Bool) → (a || b) ≡ true → (a ≡ true) ⊎ (b ≡ true)
or_true true b e = inl refl
or_true false b e = inr e

or_first : (a b : Bool) → a ≡ true → (a || b) ≡ true
or_first true b e = refl
or_first false b e = absurd (let no : false ≡ true = e in cc)

or_second : (a b : Bool) → b ≡ true → (a || b) ≡ true
or_second true b e = refl
or_second false b e = e

-- a name that one begins is one that it has
own_used : (g : ℕ) (x : ListedLive) (q : Name) → 0 < g → has_name q (begun_by g x) ≡ true → has_name q (listed_names (record { number = x.number; file = x.file })) ≡ true
own_used g x q some h = or_second (same_file_name q (Name.segment x.number)) _ (or_second (same_file_name q (Name.source x.number)) _ (by (x.file == g) (eqb_tells x.file g) (x.file == 0) (eqb_tells x.file 0) h))
  where
    by : (b : Bool) → ((b ≡ true) × (x.file ≡ g)) ⊎ ((b ≡ false) × (x.file ≢ g)) → (z : Bool) → ((z ≡ true) × (x.file ≡ 0)) ⊎ ((z ≡ false) × (x.file ≢ 0)) → has_name q (cond b (Name.live x.number x.file ∷ []) []) ≡ true
        → has_name q (cond z [] (Name.live x.number x.file ∷ [])) ≡ true
    by true (inl e) true (inl f) k = absurd (omega (arith, e.1, f.1, some))
    by true (inr e) true (inl f) k = absurd (let no : true ≡ false = e.0 in cc)
    by true e true (inr f) k = absurd (let no : true ≡ false = f.0 in cc)
    by true e false f k = k
    by false e z f k = absurd (let no : false ≡ true = k in cc)

all_used : (g : ℕ) (xs : List ListedLive) (q : Name) → 0 < g → has_name q (flat_map (begun_by g) xs) ≡ true
    → has_name q (flat_map listed_names (map (λ (x : ListedLive). record { number = x.number; file = x.file }) xs)) ≡ true
all_used g [] q some h = h
all_used g (x ∷ xs) q some h =
    let names : List Name = listed_names (record { number = x.number; file = x.file }) in
    let rest : List Name = flat_map listed_names (map (λ (x : ListedLive). record { number = x.number; file = x.file }) xs) in
    list_any-append (same_file_name q) names rest
    ∙ elim (or_true (has_name q (begun_by g x)) (has_name q (flat_map (begun_by g) xs)) (sym (list_any-append (same_file_name q) (begun_by g x) (flat_map (begun_by g) xs)) ∙ h)) [
      | inl k ↦ or_first (has_name q names) (has_name q rest) (own_used g x q some k)
      | inr k ↦ or_second (has_name q names) (has_name q rest) (all_used g xs q some k)
    ]

-- none of those that a commit begins is a file of sources
pub no_source_begun : (s : Shape) (n : ℕ) → has_name (Name.source n) (names_begun s) ≡ false
no_source_begun s n = none s.next_generation (listed_now s)
  where
    none : (g : ℕ) (xs : List ListedLive) → has_name (Name.source n) (flat_map (begun_by g) xs) ≡ false
    none g [] = refl
    none g (x ∷ xs) =
        list_any-append (same_file_name (Name.source n)) (begun_by g x) (flat_map (begun_by g) xs)
        ∙ ap (λ b. b || has_name (Name.source n) (flat_map (begun_by g) xs)) (by (x.file == g))
        ∙ none g xs
      where
        by : (b : Bool) → has_name (Name.source n) (cond b (Name.live x.number x.file ∷ []) []) ≡ false
        by true = refl
        by false = refl

pub names_are_begun : NamesAreBegun
names_are_begun text s its =
    let g : ℕ = s.next_generation in
    let some : 0 < g = subst (λ (s : Shape). 0 < s.next_generation) its.1 its.2.numbers.1 in
    record {
      new = (omega arith, begun_new s.next_segment g (listed_now s));
      used = λ q h. elim (or_true (same_file_name q (Name.commit g)) (has_name q (flat_map (begun_by g) (listed_now s))) h) [
        | inl k ↦ or_first (same_file_name q (Name.commit g)) _ k
        | inr k ↦ or_second (same_file_name q (Name.commit g)) _ (all_used g (listed_now s) q some k)
      ];
    }
