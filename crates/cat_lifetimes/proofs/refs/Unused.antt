-- The entries of a map whose names nobody has, in order.
use Rattle.std.proofs.Common.{◌≡◌, ◌≢◌, ℕ, ◌+◌, List, [], ◌∷◌, map, get_or, Bool, true, false, cond, ◌&&◌, ◌||◌, Option, Some, None, refl, sym, ◌∙◌, ap, subst, arith}
use Rattle.std.specs.Prelude.{◌==◌, count_by, is_some, length, unwrap_or, filter, AllPairs}
use Rattle.std.specs.List.{AllByRecursion, IsDistinct}
use Rattle.std.specs.List.Sorted.{IsSorted, IsPermutation, IsStrictlySortedBy}
use Rattle.std.specs.Map.{lookup, keys_of}
use Rattle.std.specs.Ordering.{is_eq, is_lt, ordering_reverse}
use Rattle.std.specs.declared.cmp.Ordering.{Ordering}
use Rattle.std.specs.declared.cmp.Ordering.TheVariants.{Less, Equal, Greater}
use Rattle.std.proofs.lemmas.Bool.{both_ways}
use Rattle.std.proofs.lemmas.List.Sorted.{length_permutation, list_any-IsPermutation}
use Rattle.std.proofs.lemmas.List.Sums.{length-filter, sum_by-cons}
use Rattle.std.proofs.lemmas.Map.Keys.{IsDistinct-IsPermutation, IsDistinct-head, IsDistinct-tail, apart_from_distinct, sorted_from_all_adjacent}
use Rattle.std.proofs.lemmas.Map.Entries.{length-keys_of, option_filter, lookup-filter-values}
use Rattle.std.proofs.lemmas.Map.Made.{is_some-lookup, IsDistinct-keys_filter}
use Rattle.cat_ledger_laws.specs.model.Portions.{Apart}
use Rattle.cat_ledger_laws.specs.model.Users.{Used, is_known, same_file_name, users_of}
use Rattle.cat_model.specs.Files.{Name}
use Rattle.cat_ledger_laws.proofs.model.Commits.{AllPairs-from_Apart}
use Rattle.cat_directory.specs.declared.name.FileName.{FileName}
use Rattle.cat_directory.specs.declared.name.FileName.TheVariants.{Segment}
use Rattle.cat_directory.specs.Names.{name_of, name_cmp, same_name}
use Rattle.cat_directory.specs.NameOrder.{same_name_equivalence, same_name_is, names_tie, name_cmp_total}
use Rattle.cat_lifetimes.specs.refs.Counts.{is_pending, used_in}
use Rattle.cat_lifetimes.specs.refs.Swept.{ArePending}
use Rattle.cat_lifetimes.proofs.refs.Named.{known_in, of_files, same_names, users_in}

-- names that are sorted, with none of them twice, rise
pub rises : (given names : List FileName) → IsPermutation given names → IsDistinct same_name given → IsSorted name_cmp names → IsStrictlySortedBy name_cmp names
rises given names moved distinct sorted =
    let apart : IsDistinct same_name names = IsDistinct-IsPermutation same_name same_name_equivalence.symm given names moved distinct in
    sorted_from_all_adjacent name_cmp_total names (Segment 0) (λ k within.
    by (get_or names k (Segment 0)) (get_or names (k + 1) (Segment 0)) (name_cmp (get_or names k (Segment 0)) (get_or names (k + 1) (Segment 0))) refl
    (apart_from_distinct same_name names k (k + 1) (Segment 0) apart (omega arith) within) (sorted k (Segment 0) (omega arith) within))
  where
    by : (x y : FileName) (o : Ordering) → name_cmp x y ≡ o → same_name x y ≡ false → is_lt (name_cmp y x) ≡ false → o ≡ Less
    by x y Less is apart above = refl
    by x y Equal is apart above = absurd (let no : false ≡ true = sym apart ∙ names_tie x y ∙ ap is_eq is in cc)
    by x y Greater is apart above = absurd (let no : false ≡ true = sym above ∙ ap is_lt (name_cmp_total.antisymm y x ∙ ap ordering_reverse is) in cc)

zero_is : (o : Option ℕ) → is_some (option_filter (λ n. n == 0) o) ≡ (is_some o && (unwrap_or o 0 == 0))
zero_is None = refl
zero_is (Some n) = by (n == 0)
  where
    by : (b : Bool) → is_some (cond b (Some n) None) ≡ b
    by true = refl
    by false = refl

-- the names without users are the pending ones
pub unused_are : (es : List (FileName × ℕ)) (names : List FileName) → IsDistinct same_name (keys_of es) → IsPermutation (keys_of (filter (λ e. e.1 == 0) es)) names
    → IsSorted name_cmp names → ArePending (map used_in es) names
unused_are es names distinct moved sorted = record {
  rising = rises (keys_of (filter (λ e. e.1 == 0) es)) names moved (IsDistinct-keys_filter same_name (λ e. e.1 == 0) es distinct) sorted;
  all = λ q. sym (list_any-IsPermutation (same_name q) (keys_of (filter (λ e. e.1 == 0) es)) names moved)
      ∙ sym (is_some-lookup (same_name q) (filter (λ e. e.1 == 0) es))
      ∙ ap is_some (lookup-filter-values same_name_equivalence (λ n. n == 0) q es distinct)
      ∙ zero_is (lookup (same_name q) es)
      ∙ (rw (known_in q es, users_in q es) refl);
}

none_has : (es : List (FileName × ℕ)) → count_by (λ (e : FileName × ℕ). e.1 == 0) es ≡ count_by (λ (u : Used). u.users == 0) (map used_in es)
none_has [] = refl
none_has (e ∷ es) =
    sum_by-cons (λ (x : FileName × ℕ). cond (x.1 == 0) 1 0) e es ∙ ap {B = ℕ} (λ n. cond (e.1 == 0) 1 0 + n) (none_has es)
    ∙ sym (sum_by-cons (λ (u : Used). cond (u.users == 0) 1 0) (used_in e) (map used_in es))

-- and as many as these
pub unused_count : (es : List (FileName × ℕ)) (names : List FileName) → IsPermutation (keys_of (filter (λ e. e.1 == 0) es)) names
    → length names ≡ count_by (λ (u : Used). u.users == 0) (map used_in es)
unused_count es names moved =
    length_permutation _ names moved ∙ length-keys_of (filter (λ e. e.1 == 0) es) ∙ length-filter (λ e. e.1 == 0) es ∙ none_has es

-- no name stands twice among the users
once_in : (es : List (FileName × ℕ)) → IsDistinct same_name (keys_of es) → Apart (λ u v. u.name ≢ v.name) (map used_in es)
once_in [] d = tt
once_in (e ∷ es) d = (each e es (IsDistinct-head same_name e.0 (keys_of es) d), once_in es (IsDistinct-tail same_name e.0 (keys_of es) d))
  where
    each : (e : FileName × ℕ) (es : List (FileName × ℕ)) → AllByRecursion (λ y. same_name e.0 y ≡ false) (keys_of es) → AllByRecursion (λ v. name_of e.0 ≢ v.name) (map used_in es)
    each e [] a = tt
    each e (f ∷ fs) a = ((λ same. let alike : same_name e.0 f.0 ≡ true = sym (same_names e.0 f.0) ∙ ap (same_file_name (name_of e.0)) (sym same) ∙ same_names e.0 e.0 ∙ same_name_equivalence.refl e.0 in both_ways _ a.0 alike), each e fs a.1)

pub once : (es : List (FileName × ℕ)) → IsDistinct same_name (keys_of es) → AllPairs (λ u v. u.name ≢ v.name) (map used_in es)
once es d = AllPairs-from_Apart (λ u v. u.name ≢ v.name) (map used_in es) (once_in es d)

-- ---- where no name is pending

-- a name that is none of the keys isn't known
none_known : (k : FileName) (es : List (FileName × ℕ)) → AllByRecursion (λ y. same_name k y ≡ false) (keys_of es) → is_known (map used_in es) (name_of k) ≡ false
none_known k [] a = refl
none_known k (f ∷ fs) a = ap (λ b. b || is_known (map used_in fs) (name_of k)) (same_names k f.0 ∙ a.0) ∙ none_known k fs a.1

-- the first of them has a user, where none is pending
first_used : (e : FileName × ℕ) (us : List Used) → is_pending (used_in e ∷ us) (name_of e.0) ≡ false → (e.1 == 0) ≡ false
first_used e us none =
    let self : same_file_name (name_of e.0) (name_of e.0) ≡ true = same_names e.0 e.0 ∙ same_name_equivalence.refl e.0 in
    sym (ap (λ b. (b || is_known us (name_of e.0)) && (cond b e.1 (users_of us (name_of e.0)) == 0)) self) ∙ none

-- nor is one of the others
others_none : (e : FileName × ℕ) (es : List (FileName × ℕ)) → AllByRecursion (λ y. same_name e.0 y ≡ false) (keys_of es)
    → ((q : Name) → is_pending (map used_in (e ∷ es)) q ≡ false) → (q : Name) → is_pending (map used_in es) q ≡ false
others_none e es apart none = of_files (λ n. is_pending (map used_in es) n ≡ false) (λ q. by q (same_name q e.0) refl)
  where
    by : (q : FileName) (b : Bool) → same_name q e.0 ≡ b → is_pending (map used_in es) (name_of q) ≡ false
    by q true is =
        ap (λ b. b && (users_of (map used_in es) (name_of q) == 0))
        (subst (λ k. is_known (map used_in es) (name_of k) ≡ false) (sym (same_name_is q e.0 is)) (none_known e.0 es apart))
    by q false is =
        sym (ap (λ b. (b || is_known (map used_in es) (name_of q)) && (cond b e.1 (users_of (map used_in es) (name_of q)) == 0)) (same_names q e.0 ∙ is))
        ∙ none (name_of q)

abbrev unused : List Used → ℕ
unused us = count_by (λ (u : Used). u.users == 0) us

-- no entry is without users where no name is pending
pub none_left : (es : List (FileName × ℕ)) → IsDistinct same_name (keys_of es) → ((q : Name) → is_pending (map used_in es) q ≡ false)
    → unused (map used_in es) ≡ 0
none_left [] distinct none = refl
none_left (e ∷ es) distinct none =
    let more : unused (map used_in (e ∷ es)) ≡ cond (e.1 == 0) 1 0 + unused (map used_in es) =
    sum_by-cons (λ (u : Used). cond (u.users == 0) 1 0) (used_in e) (map used_in es) in
    let first : cond {A = ℕ} (e.1 == 0) 1 0 ≡ 0 = ap {B = ℕ} (λ b. cond b 1 0) (first_used e (map used_in es) (none (name_of e.0))) in
    let rest = none_left es (IsDistinct-tail same_name e.0 (keys_of es) distinct)
    (others_none e es (IsDistinct-head same_name e.0 (keys_of es) distinct) none) in
    omega (arith, more, first, rest)
