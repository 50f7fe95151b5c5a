-- The names of a directory: each comes once, and which commit is the newest among them.
use Rattle.std.proofs.Common.{◌≡◌, ℕ, ◌+◌, ◌≤◌, List, [], ◌∷◌, Bool, true, false, cond, refl, sym, ◌∙◌, ap, subst, arith}
use Rattle.std.specs.Prelude.{count_by, Contains}
use Rattle.std.specs.List.{AllByRecursion}
use Rattle.std.specs.List.Sorted.{IsStrictlySortedBy}
use Rattle.std.specs.declared.cmp.Ordering.TheVariants.{Less}
use Rattle.std.specs.Ordering.{is_eq}
use Rattle.std.proofs.lemmas.List.Elements.{All-contains}
use Rattle.std.proofs.lemmas.Map.Keys.{sorted_head, sorted_tail}
use Rattle.std.proofs.lemmas.Map.Views.{list_any-from_Contains, Contains-from_any}
use Rattle.cat_model.specs.Files.{Name}
use Rattle.cat_directory.specs.declared.name.FileName.{FileName}
use Rattle.cat_directory.specs.declared.name.FileName.TheVariants as file
use Rattle.cat_directory.specs.Devices.{Lists}
use Rattle.cat_directory.specs.Names.{name_of, name_cmp, same_name}
use Rattle.cat_directory.specs.NameOrder.{same_name_is, same_name_equivalence, names_tie}
use Rattle.cat_lifetimes.specs.refs.Counts.{names_in}
use Rattle.cat_lifetimes.proofs.refs.Named.{of_files, times_in, has_in, count_by-cons}
use Rattle.cat_ledger_laws.specs.model.Users.{Used, is_known, times, has_name}
use Rattle.cat_ledger_laws.specs.model.Ledger.{IsPast, IsTaken}
use Rattle.cat_ledger_laws.specs.shape.Ties.{ToldFiles}
use Rattle.cat_commits.specs.reading.Numbers.{AreNext, IsNewest}
use Rattle.cat_ledger_state.specs.Cores.{KnownArePast}
use Rattle.cat_ledger_state.specs.startup.Newest.{IsNewestCommit, HasNoCommit}

-- ---- names in code are those that contain them

pub named : (names : List FileName) (q : FileName) → Contains names q → has_name (name_of q) (names_in names) ≡ true
named names q there = has_in q names ∙ list_any-from_Contains same_name_equivalence q names there

pub contained : (names : List FileName) (q : FileName) → has_name (name_of q) (names_in names) ≡ true → Contains names q
contained names q e = Contains-from_any same_name_is q names (sym (has_in q names) ∙ e)

-- ---- once

-- a name isn't among those that come behind it
none_behind : (k : FileName) (names : List FileName) → AllByRecursion (λ y. name_cmp k y ≡ Less) names → count_by (same_name k) names ≡ 0
none_behind k [] a = refl
none_behind k (y ∷ names) a =
    let other : same_name k y ≡ false = names_tie k y ∙ ap is_eq a.0 in
    count_by-cons (same_name k) y names ∙ (rw other (let rest : count_by (same_name k) names ≡ 0 = none_behind k names a.1 in omega (arith, rest)))

rising_once : (k : FileName) (names : List FileName) → IsStrictlySortedBy name_cmp names → count_by (same_name k) names ≤ 1
rising_once k [] s = omega arith
rising_once k (x ∷ xs) s = by (same_name k x) refl (count_by-cons (same_name k) x xs) (rising_once k xs (sorted_tail name_cmp x xs s))
  where
    by : (b : Bool) → same_name k x ≡ b → count_by (same_name k) (x ∷ xs) ≡ cond b 1 0 + count_by (same_name k) xs → count_by (same_name k) xs ≤ 1
        → count_by (same_name k) (x ∷ xs) ≤ 1
    by true is e rest =
        let behind = subst (λ n. AllByRecursion (λ y. name_cmp n y ≡ Less) xs) (sym (same_name_is k x is)) (sorted_head name_cmp x xs s) in
        omega (arith, e, none_behind k xs behind)
    by false is e rest = omega (arith, e, rest)

-- no name is listed twice
pub listed_once : (told : ToldFiles) (names : List FileName) → Lists told names → (q : Name) → times q (names_in names) ≤ 1
listed_once told names lists = of_files (λ q. times q (names_in names) ≤ 1) (λ k. subst (λ n. n ≤ 1) (sym (times_in k names)) (rising_once k names lists.rising))

-- ---- the newest commit

pub newest_is : (told : ToldFiles) (names : List FileName) (g : ℕ) → Lists told names → IsNewest names g → IsNewestCommit told g
newest_is told names g lists newest = record {
  there = lists.there (file.Commit g) newest.there;
  greatest = λ h bytes is. newest.greatest h (lists.complete (file.Commit h) bytes is);
}

pub none_is : (told : ToldFiles) (names : List FileName) → Lists told names → ((g : ℕ) → Contains names (file.Commit g) → ⊥) → HasNoCommit told
none_is told names lists none h bytes is = none h (lists.complete (file.Commit h) bytes is)

-- its number was taken
pub newest_taken : (names : List FileName) (n g generation : ℕ) → AreNext names n g → IsNewest names generation → IsTaken g generation
newest_taken names n g generation next newest = All-contains (λ q. IsPast n g (name_of q)) names (file.Commit generation) next.past newest.there

-- so were those of each known name
pub names_past : (names : List FileName) (us : List Used) (n g : ℕ) → ((q : Name) → is_known us q ≡ has_name q (names_in names)) → AreNext names n g → KnownArePast us n g
names_past names us n g known next = of_files (λ q. is_known us q ≡ true → IsPast n g q)
    (λ k there. All-contains (λ q. IsPast n g (name_of q)) names k next.past (contained names k (sym (known (name_of k)) ∙ there)))
