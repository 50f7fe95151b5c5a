-- Sorted lists of texts without doubles: one is told by its members.
use Rattle.std.proofs.Common.{◌≡◌, ℕ, zero, suc, ◌+◌, ◌<◌, ◌≤◌, ◌⊎◌, inl, inr, length, Result, Ok, Err, IsTrue, List, [], ◌∷◌, Bool, true, false, refl, sym, ap, ◌∙◌, Ordering, Less, Equal, Greater, nat_cmp, arith}
use Rattle.std.proofs.lemmas.Bool.{true≢false, cases_lt}
use Rattle.std.proofs.lemmas.Map.Lookups.{btree_set_from_contains, exact_bytes}
use Rattle.std.proofs.lemmas.Map.Made.{is_member-Decides}
use Rattle.std.proofs.lemmas.List.Kept.{Contains-dedup, Contains-from_dedup}
use Rattle.std.specs.BTreeSet.{insert_key}
use Rattle.std.specs.BTreeMap.{is_at}
use Rattle.std.specs.Cmp.{both_ways, tied_itself, eq_by_cmp_equiv, IsEquivalence}
use Rattle.std.specs.Cmp.Lexicographic.{slice_cmp, nat_list_cmp_total, texts_ties, pointwise, nat_list_eq_equiv}
use Rattle.std.specs.Bool.{Decides}
use Rattle.std.specs.Prelude.{◌||◌, ◌↔◌, nat_eq}
use Rattle.std.specs.List.{list_any, AllByRecursion, Contains, dedup}
use Rattle.std.specs.List.Sorted.{IsStrictlySortedBy, IsSorted, IsSearchInRange, IsBinarySearchResult, IsPartitionPoint}
use Rattle.std.proofs.lemmas.List.Sorted.{searchable_from_sorted}
use Rattle.std.specs.Ordering.{match_ordering, ordering_reverse, is_eq, is_lt, eq_by_cmp}
use Rattle.std.specs.Result.{is_ok}
use Rattle.cat_base.specs.Texts.{sorted_set, IsTextSet}

abbrev order : List ℕ → List ℕ → Ordering
order = slice_cmp nat_cmp

-- whether the list has the text
abbrev pub has : List ℕ → List (List ℕ) → Bool
has q xs = list_any (is_at (order q)) xs

pub IsTextSet-nil : IsTextSet []
unfolding IsStrictlySortedBy
IsTextSet-nil = tt

all_insert : (P : List ℕ → Type 0) (k : List ℕ) (xs : List (List ℕ)) → AllByRecursion P xs → P k → AllByRecursion P (insert_key order xs k)
all_insert P k [] all one = (one, tt)
all_insert P k (x ∷ xs) all one = by (all_insert P k xs all.1 one) (order k x)
  where
    by : AllByRecursion P (insert_key order xs k) → (r : Ordering) → AllByRecursion P (match_ordering r (k ∷ x ∷ xs) (x ∷ xs) (x ∷ insert_key order xs k))
    by later Less = (one, all)
    by later Equal = all
    by later Greater = (all.0, later)

below_all : (k x : List ℕ) (xs : List (List ℕ)) → order k x ≡ Less → AllByRecursion (λ y. order x y ≡ Less) xs → AllByRecursion (λ y. order k y ≡ Less) xs
below_all k x [] less all = tt
below_all k x (y ∷ ys) less all = (nat_list_cmp_total.trans k x y less all.0, below_all k x ys less all.1)

sorted_insert : (k : List ℕ) (xs : List (List ℕ)) → IsTextSet xs → IsTextSet (insert_key order xs k)
unfolding IsStrictlySortedBy
sorted_insert k [] sorted = (tt, tt)
sorted_insert k (x ∷ xs) sorted = by (sorted_insert k xs sorted.1) (order k x) refl
  where
    by : IsTextSet (insert_key order xs k) → (r : Ordering) → order k x ≡ r → IsTextSet (match_ordering r (k ∷ x ∷ xs) (x ∷ xs) (x ∷ insert_key order xs k))
    by later Less is = ((is, below_all k x xs is sorted.0), sorted)
    by later Equal is = sorted
    by later Greater is = (all_insert (λ y. order x y ≡ Less) k xs sorted.0 (nat_list_cmp_total.antisymm x k ∙ ap ordering_reverse is), later)

pub IsTextSet-sorted_set : (xs : List (List ℕ)) → IsTextSet (sorted_set xs)
IsTextSet-sorted_set [] = IsTextSet-nil
IsTextSet-sorted_set (x ∷ xs) = sorted_insert x (sorted_set xs) (IsTextSet-sorted_set xs)

twice : (a b : Bool) → (a || b) ≡ (a || (a || b))
twice true b = refl
twice false b = refl

swapped : (a b c : Bool) → (a || (b || c)) ≡ (b || (a || c))
swapped true true c = refl
swapped true false c = refl
swapped false b c = refl

same : IsEquivalence (eq_by_cmp order)
same = eq_by_cmp_equiv nat_list_cmp_total

has-insert_key : (q k : List ℕ) (xs : List (List ℕ)) → has q (insert_key order xs k) ≡ (is_at (order q) k || has q xs)
has-insert_key q k [] = refl
has-insert_key q k (x ∷ xs) = by (has-insert_key q k xs) (order k x) refl
  where
    by : has q (insert_key order xs k) ≡ (is_at (order q) k || has q xs) → (r : Ordering) → order k x ≡ r → has q (match_ordering r (k ∷ x ∷ xs) (x ∷ xs) (x ∷ insert_key order xs k)) ≡ (is_at (order q) k || has q (x ∷ xs))
    by later Less is = refl
    by later Equal is =
        let tie : eq_by_cmp order q x ≡ eq_by_cmp order q k = same.symm q x ∙ sym (same.congr k x q (ap is_eq is)) ∙ same.symm k q in
        twice (is_at (order q) x) (has q xs) ∙ ap (λ b. b || has q (x ∷ xs)) tie
    by later Greater is = ap (λ b. is_at (order q) x || b) later ∙ swapped (is_at (order q) x) (is_at (order q) k) (has q xs)

pub has-sorted_set : (q : List ℕ) (xs : List (List ℕ)) → has q (sorted_set xs) ≡ has q xs
has-sorted_set q [] = refl
has-sorted_set q (x ∷ xs) = has-insert_key q x (sorted_set xs) ∙ ap (λ b. is_at (order q) x || b) (has-sorted_set q xs)

-- `has` in the words of `Contains`
pub has-Decides : (q : List ℕ) (xs : List (List ℕ)) → Decides (has q xs) (Contains xs q)
has-Decides q xs = is_member-Decides decided xs q
  where
    decided : (a b : List ℕ) → Decides (eq_by_cmp order a b) (a ≡ b)
    decided a b = (λ e. exact_bytes a b (equal (order a b) e), λ e. ap (λ y. eq_by_cmp order a y) (sym e) ∙ ap is_eq (tied_itself nat_list_cmp_total a))
      where
        equal : (r : Ordering) → is_eq r ≡ true → r ≡ Equal
        equal Less e = absurd (true≢false (sym e))
        equal Equal e = refl
        equal Greater e = absurd (true≢false (sym e))

-- two such lists with the same members are one
pub same_set : (xs ys : List (List ℕ)) → IsTextSet xs → IsTextSet ys → ((q : List ℕ) → has q xs ≡ has q ys) → xs ≡ ys
same_set xs ys a b members = btree_set_from_contains nat_list_cmp_total (record { keys = xs }) (record { keys = ys }) a b members exact_bytes

-- the list that has the members of another in order is its set
pub sorted_set_is : (xs ys : List (List ℕ)) → IsTextSet ys → ((q : List ℕ) → has q xs ≡ has q ys) → ys ≡ sorted_set xs
sorted_set_is xs ys sorted members = same_set ys (sorted_set xs) sorted (IsTextSet-sorted_set xs) (λ q. sym (members q) ∙ sym (has-sorted_set q xs))

pub has-dedup : (q : List ℕ) (xs : List (List ℕ)) → has q xs ≡ has q (dedup (pointwise nat_eq) xs)
has-dedup q xs =
    both_ways (has q xs) (has q (dedup (pointwise nat_eq) xs))
    (λ e. (has-Decides q _).1 (Contains-dedup nat_list_eq_equiv exact xs q ((has-Decides q xs).0 e)))
    (λ e. (has-Decides q xs).1 (Contains-from_dedup (pointwise nat_eq) xs q ((has-Decides q _).0 e)))
  where
    equal : (r : Ordering) → is_eq r ≡ true → r ≡ Equal
    equal Less e = absurd (true≢false (sym e))
    equal Equal e = refl
    equal Greater e = absurd (true≢false (sym e))

    exact : (x y : List ℕ) → pointwise nat_eq x y ≡ true → x ≡ y
    exact x y e = exact_bytes x y (equal (order x y) (sym (texts_ties x y) ∙ e))

-- a set of a list has the texts of the list
pub sorted_set_members : (xs : List (List ℕ)) (q : List ℕ) → Contains (sorted_set xs) q ↔ Contains xs q
sorted_set_members xs q = (
  λ h. (has-Decides q xs).0 (sym (has-sorted_set q xs) ∙ (has-Decides q (sorted_set xs)).1 h),
  λ h. (has-Decides q (sorted_set xs)).0 (has-sorted_set q xs ∙ (has-Decides q xs).1 h),
)

-- and no other rising list has just these
pub sorted_set_only : (xs ys : List (List ℕ)) → IsTextSet ys → ((q : List ℕ) → Contains ys q ↔ Contains xs q) → ys ≡ sorted_set xs
sorted_set_only xs ys sorted members =
    sorted_set_is xs ys sorted (λ q. both_ways (has q xs) (has q ys)
    (λ e. (has-Decides q ys).1 ((members q).1 ((has-Decides q xs).0 e)))
    (λ e. (has-Decides q xs).1 ((members q).0 ((has-Decides q ys).0 e))))

-- a set is in order as a sort leaves a list
rises : (xs : List (List ℕ)) → IsTextSet xs → IsSorted order xs
unfolding IsStrictlySortedBy
rises [] sorted k d low high = absurd (omega arith)
rises (x ∷ []) sorted k d low high = absurd (omega arith)
rises (x ∷ y ∷ ys) sorted zero d low high = ap is_lt (nat_list_cmp_total.antisymm y x ∙ ap ordering_reverse sorted.0.0)
rises (x ∷ y ∷ ys) sorted (suc k) d low high = let e : suc k + 1 ≡ suc (k + 1) = omega arith in rw e (rises (y ∷ ys) sorted.1 k d (omega arith) (omega arith))

-- what a binary search for a text answers of a set
pub searched : (xs : List (List ℕ)) (q : List ℕ) (r : Result ℕ ℕ) → IsTextSet xs → IsSearchInRange r (length xs) → IsBinarySearchResult (λ y. order y q) xs r → IsTrue (is_ok r) ↔ Contains xs q
searched xs q (Ok place) sorted range equal = (λ _. (place, range, exact_bytes _ _ (equal q)), λ _. refl)
searched xs q (Err place) sorted range parted =
    let parts = parted (searchable_from_sorted nat_list_cmp_total (λ (y : List ℕ). y) xs q (rises xs sorted)) in
    (λ e. absurd (true≢false (sym e)), λ h. absurd (apart parts h (cases_lt h.0 place)))
  where
    own : (x : List ℕ) → x ≡ q → order x q ≡ Equal
    own x e = ap (λ y. order y q) e ∙ tied_itself nat_list_cmp_total q

    apart : IsPartitionPoint (λ y. order y q ≡ Less) (λ y. order y q ≡ Greater) xs place → (h : Contains xs q) → (h.0 < place) ⊎ (place ≤ h.0) → ⊥
    apart parts h (inl below) = let less = parts.0 h.0 q (omega arith) below in let tie = own _ h.2 in cc
    apart parts h (inr above) = let more = parts.1 h.0 q above h.1 in let tie = own _ h.2 in cc
