-- Names in order: which come before which.
use Rattle.std.proofs.Common.{◌≡◌, ℕ, zero, suc, ◌<◌, List, [], ◌∷◌, length, take, get_or, Bool, true, false, ◌||◌, refl, sym, ◌∙◌, ap, subst, arith, ◌⊎◌, inl, inr}
use Rattle.std.specs.List.{list_any, AllByRecursion}
use Rattle.std.specs.List.Sorted.{IsStrictlySortedBy}
use Rattle.std.specs.declared.cmp.Ordering.TheVariants.{Less}
use Rattle.std.specs.Ordering.{is_eq}
use Rattle.std.proofs.lemmas.Map.Keys.{sorted_head, sorted_tail}
use Rattle.cat_directory.specs.declared.name.FileName.{FileName}
use Rattle.cat_directory.specs.Names.{name_cmp, same_name}
use Rattle.cat_directory.specs.NameOrder.{same_name_is, same_name_equivalence, names_tie}

-- what holds of each name of a list holds of one that stands in it
all_at : (P : FileName → Type 0) (q : FileName) (names : List FileName) → AllByRecursion P names → list_any (same_name q) names ≡ true → P q
all_at P q [] a e = absurd (let no : false ≡ true = e in cc)
all_at P q (x ∷ xs) a e = by (same_name q x) refl e (all_at P q xs a.1)
  where
    by : (b : Bool) → same_name q x ≡ b → (b || list_any (same_name q) xs) ≡ true → (list_any (same_name q) xs ≡ true → P q) → P q
    by true is e further = subst P (sym (same_name_is q x is)) a.0
    by false is e further = further e

-- of names in order, one of the first i comes before one that isn't among these
pub comes_before : (p q : FileName) (names : List FileName) (i : ℕ) → IsStrictlySortedBy name_cmp names → list_any (same_name p) (take i names) ≡ true
    → list_any (same_name q) names ≡ true → list_any (same_name q) (take i names) ≡ false → name_cmp p q ≡ Less
comes_before p q names zero sorted in_front there behind = absurd (let no : false ≡ true = in_front in cc)
comes_before p q [] (suc i) sorted in_front there behind = absurd (let no : false ≡ true = in_front in cc)
comes_before p q (x ∷ xs) (suc i) sorted in_front there behind =
    by (same_name p x) (same_name q x) refl in_front there behind (comes_before p q xs i (sorted_tail name_cmp x xs sorted))
  where
    by : (a b : Bool) → same_name p x ≡ a → (a || list_any (same_name p) (take i xs)) ≡ true → (b || list_any (same_name q) xs) ≡ true
        → (b || list_any (same_name q) (take i xs)) ≡ false → (list_any (same_name p) (take i xs) ≡ true → list_any (same_name q) xs ≡ true → list_any (same_name q) (take i xs) ≡ false → name_cmp p q ≡ Less) → name_cmp p q ≡ Less
    by a true is front there behind further = absurd (let no : true ≡ false = behind in cc)
    by true false is front there behind further = subst (λ n. name_cmp n q ≡ Less) (sym (same_name_is p x is)) (all_at (λ y. name_cmp x y ≡ Less) q xs (sorted_head name_cmp x xs sorted) there)
    by false false is front there behind further = further front there behind

-- a name that isn't among the first i is the next one, or comes behind it
pub next_or_behind : (p d : FileName) (names : List FileName) (i : ℕ) → i < length names → IsStrictlySortedBy name_cmp names
    → list_any (same_name p) names ≡ true → list_any (same_name p) (take i names) ≡ false → (p ≡ get_or names i d) ⊎ (name_cmp (get_or names i d) p ≡ Less)
next_or_behind p d [] i within sorted there behind = absurd (omega arith)
next_or_behind p d (x ∷ xs) zero within sorted there behind = by (same_name p x) refl there
  where
    by : (a : Bool) → same_name p x ≡ a → (a || list_any (same_name p) xs) ≡ true → (p ≡ x) ⊎ (name_cmp x p ≡ Less)
    by true is there = inl (same_name_is p x is)
    by false is there = inr (all_at (λ y. name_cmp x y ≡ Less) p xs (sorted_head name_cmp x xs sorted) there)
next_or_behind p d (x ∷ xs) (suc i) within sorted there behind =
    by (same_name p x) there behind (next_or_behind p d xs i (omega arith) (sorted_tail name_cmp x xs sorted))
  where
    by : (a : Bool) → (a || list_any (same_name p) xs) ≡ true → (a || list_any (same_name p) (take i xs)) ≡ false
        → (list_any (same_name p) xs ≡ true → list_any (same_name p) (take i xs) ≡ false → (p ≡ get_or xs i d) ⊎ (name_cmp (get_or xs i d) p ≡ Less))
        → (p ≡ get_or xs i d) ⊎ (name_cmp (get_or xs i d) p ≡ Less)
    by true there behind further = absurd (let no : true ≡ false = behind in cc)
    by false there behind further = further there behind

at_index : (P : FileName → Type 0) (d : FileName) (names : List FileName) (i : ℕ) → i < length names → AllByRecursion P names → P (get_or names i d)
at_index P d [] i within a = absurd (omega arith)
at_index P d (x ∷ xs) zero within a = a.0
at_index P d (x ∷ xs) (suc i) within a = at_index P d xs i (omega arith) a.1

-- of two names in order, the second isn't the first
apart : (x y : FileName) → name_cmp x y ≡ Less → same_name y x ≡ false
apart x y less = same_name_equivalence.symm y x ∙ names_tie x y ∙ ap is_eq less

-- the next one isn't among the first i
pub next_is_new : (d : FileName) (names : List FileName) (i : ℕ) → i < length names → IsStrictlySortedBy name_cmp names → list_any (same_name (get_or names i d)) (take i names) ≡ false
next_is_new d [] i within sorted = absurd (omega arith)
next_is_new d (x ∷ xs) zero within sorted = refl
next_is_new d (x ∷ xs) (suc i) within sorted =
    let less : name_cmp x (get_or xs i d) ≡ Less = at_index (λ y. name_cmp x y ≡ Less) d xs i (omega arith) (sorted_head name_cmp x xs sorted) in
    rw (apart x (get_or xs i d) less) (next_is_new d xs i (omega arith) (sorted_tail name_cmp x xs sorted))
