-- The labels of a row, by their global ordinals.
use Rattle.std.proofs.Common.{◌≡◌, ℕ, zero, suc, ◌+◌, ◌*◌, ◌<◌, ◌≤◌, List, [], ◌∷◌, length, get_or, take, map, Bool, true, false, cond, not, ◌||◌, eqb, refl, sym, ap, ◌∙◌, arith, inl, inr, Less, Equal}
use Rattle.std.proofs.lemmas.Bool.{cases_Bool}
use Rattle.std.proofs.lemmas.Bool.Decides.{nat_tests}
use Rattle.std.proofs.lemmas.List.{get_or-map, length-map}
use Rattle.std.proofs.lemmas.Slice.Eq.{bytes_eq-Decides}
use Rattle.std.specs.Cmp.{tied_itself}
use Rattle.std.specs.Cmp.Lexicographic.{slice_cmp, nat_list_cmp_total, texts_ties}
use Rattle.std.specs.List.{list_any, flat_map, AllByRecursion}
use Rattle.std.specs.List.Sorted.{IsStrictlySortedBy}
use Rattle.std.specs.Ordering.{nat_cmp}
use Rattle.std.specs.Prelude.{All}
use mir.Val.{bool_byte}
use Rattle.cat_base.specs.Texts.{IsTextSet}
use Rattle.cat_base.proofs.TextSets.{has, has-sorted_set}
use Rattle.cat_model.specs.Facets.{is_empty}
use Rattle.cat_model.specs.Ordinals.{dictionary_of, postings_of, rows_having, text_at}
use Rattle.cat_model.specs.RowSets.{indices}
use Rattle.cat_model.specs.Text.{Text, same_text}
use Rattle.cat_model.proofs.Lists.{list_any-append}
use Rattle.cat_search.proofs.columns_laws.Searches.{one_place}
use Rattle.cat_facets.specs.Tallies.{globals_of, has_label, label_count, occurrences, one_if, sum_at}
use Rattle.cat_search.proofs.views_laws.Selected.{at_indices, count-selected}
use Rattle.cat_facets.proofs.Counted.{count, count-is, count-map}

-- ---- texts of ordinals

differ : (x y : ℕ) → (y ≡ x → ⊥) → eqb y x ≡ false
differ x y h = elim (cases_Bool (eqb y x)) [ inl e ↦ absurd (h (grind (arith, nat_tests))) | inr e ↦ e ]

number_is : (x y : ℕ) → eqb x y ≡ true → x ≡ y
number_is x y e = grind (arith, nat_tests)

pub same_test : (all : List Text) (o x : ℕ) → IsTextSet all → o < length all → x < length all → eqb x o ≡ same_text (text_at all o) (text_at all x)
same_test all o x sorted lo lx = elim (cases_Bool (eqb x o)) [
  | inl e ↦ let same : x ≡ o = number_is x o e in e ∙ sym ((bytes_eq-Decides (text_at all o) (text_at all x)).1 (ap (text_at all) (sym same)))
  | inr e ↦ elim (cases_Bool (same_text (text_at all o) (text_at all x))) [
    | inl t ↦ let same : o ≡ x = one_place all o x sorted lo lx ((bytes_eq-Decides (text_at all o) (text_at all x)).0 t) in absurd (grind (arith, nat_tests))
    | inr t ↦ e ∙ sym t
  ]
]

-- as often as the ordinal is among them, its text is among their texts
count_alike : (all : List Text) (g : ℕ) (xs : List ℕ) → IsTextSet all → g < length all → All (λ x. x < length all) xs
    → count (λ x. eqb x g) xs ≡ count (same_text (text_at all g)) (map (text_at all) xs)
count_alike all g [] sorted lo a = refl
count_alike all g (x ∷ xs) sorted lo a =
    ap (λ n. n + one_if (eqb x g)) (count_alike all g xs sorted lo (λ k d lt. a (suc k) d (omega arith)))
    ∙ ap (λ b. count (same_text (text_at all g)) (map (text_at all) xs) + one_if b) (same_test all g x sorted lo (a 0 0 (omega arith)))

-- ---- a set has a text at most once

apart : (x y : Text) → slice_cmp nat_cmp x y ≡ Less → same_text x y ≡ false
apart x y less = elim (cases_Bool (same_text x y)) [
  | inl e ↦
      let same : x ≡ y = (bytes_eq-Decides x y).0 e in
      let tie : slice_cmp nat_cmp x y ≡ Equal = ap (slice_cmp nat_cmp x) (sym same) ∙ tied_itself nat_list_cmp_total x in
      let wrong : Less ≡ Equal = sym less ∙ tie in absurd (cc)
  | inr e ↦ e
]

none_alike : (x : Text) (ys : List Text) → AllByRecursion (λ y. slice_cmp nat_cmp x y ≡ Less) ys → list_any (same_text x) ys ≡ false
none_alike x [] a = refl
none_alike x (y ∷ ys) a = rw (apart x y a.0) (none_alike x ys a.1)

once : (t : Text) (row : List Text) → IsTextSet row → count (same_text t) row ≡ one_if (has_label t row)
unfolding IsStrictlySortedBy
once t [] sorted = refl
once t (x ∷ xs) sorted = elim (cases_Bool (same_text t x)) [
  | inl e ↦
      let same : t ≡ x = (bytes_eq-Decides t x).0 e in
      let none : list_any (same_text t) xs ≡ false = ap (λ y. list_any (same_text y) xs) same ∙ none_alike x xs sorted.0 in
      let rest : count (same_text t) xs ≡ one_if false = once t xs sorted.1 ∙ ap one_if none in
      rw e (omega (arith, rest))
  | inr e ↦ let rest : count (same_text t) xs ≡ one_if (has_label t xs) = once t xs sorted.1 in rw e (omega (arith, rest))
]

-- ---- a row's labels, by the ordinals of its segment

through : (all texts : List Text) (globals os : List ℕ) → map (text_at all) globals ≡ texts → All (λ o. o < length texts) os
    → map (text_at all) (globals_of globals os) ≡ map (text_at texts) os
through all texts globals [] e a = refl
through all texts globals (o ∷ os) e a =
    let long : length texts ≡ length globals = sym (ap length e) ∙ length-map globals (text_at all) in
    let within : o < length globals = let w = a 0 0 (omega arith) in omega (arith, w, long) in
    ap (λ t. t ∷ map (text_at all) (globals_of globals os)) (sym (get_or-map (text_at all) globals o 0 [] within) ∙ ap (λ ts. get_or ts o []) e)
    ∙ ap (λ ts. text_at texts o ∷ ts) (through all texts globals os e (λ k d lt. a (suc k) d (omega arith)))

pub globals_within : (n : ℕ) (globals os : List ℕ) → All (λ g. g < n) globals → All (λ o. o < length globals) os → All (λ g. g < n) (globals_of globals os)
globals_within n globals os a b = λ k d lt.
    let low : k < length os = omega (arith, length-map os (λ o. get_or globals o 0)) in
    let at : get_or (globals_of globals os) k d ≡ get_or globals (get_or os k 0) 0 = get_or-map (λ o. get_or globals o 0) os k 0 d low in
    let h = a (get_or os k 0) 0 (b k 0 low) in
    omega (arith, at, h)

-- whether the row has the label of the global ordinal
pub row_occurs : (all texts : List Text) (globals os : List ℕ) (row : List Text) (g : ℕ) → IsTextSet all → map (text_at all) globals ≡ texts → All (λ x. x < length all) globals
    → map (text_at texts) os ≡ row → All (λ o. o < length texts) os → IsTextSet row → g < length all
    → occurrences g (globals_of globals os) ≡ one_if (has_label (text_at all g) row)
row_occurs all texts globals os row g sorted maps within is bound set lt =
    let long : length texts ≡ length globals = sym (ap length maps) ∙ length-map globals (text_at all) in
    let low = λ (k d : ℕ) (l : k < length os). let h = bound k d l in let r : get_or os k d < length globals = omega (arith, h, long) in r in
    sym (count-is (λ x. eqb x g) (globals_of globals os))
    ∙ count_alike all g (globals_of globals os) sorted lt (globals_within (length all) globals os within low)
    ∙ ap (count (same_text (text_at all g))) (through all texts globals os maps bound ∙ is)
    ∙ once (text_at all g) row set

-- ---- whether a row has a label at all

pub some_label : (texts : List Text) (os : List ℕ) (row : List Text) → map (text_at texts) os ≡ row → eqb (length os) 0 ≡ is_empty row
some_label texts os row e = plain os ∙ ap is_empty e
  where
    plain : (os : List ℕ) → eqb (length os) 0 ≡ is_empty (map (text_at texts) os)
    plain [] = refl
    plain (x ∷ xs) = differ 0 (suc (length xs)) (λ e. absurd (omega arith))

pub byte_is : (b : Bool) → bool_byte b ≡ one_if b
byte_is true = refl
byte_is false = refl

pub is_row : (texts : List Text) (os : List ℕ) (row : List Text) (empty : Bool) (n : ℕ) → map (text_at texts) os ≡ row → empty ≡ eqb (length os) 0 → n ≡ bool_byte (not empty)
    → n ≡ one_if (not (is_empty row))
is_row texts os row empty n e is byte = byte ∙ byte_is (not empty) ∙ ap (λ b. one_if (not b)) (is ∙ some_label texts os row e)

pub one_le : (b : Bool) → one_if b ≤ 1
one_le true = omega arith
one_le false = omega arith

-- ---- all rows of a segment, by the counts of its labels

none_yet : (g : ℕ) (xs cs : List ℕ) → sum_at g (take 0 xs) (take 0 cs) ≡ 0
none_yet g [] cs = refl
none_yet g (x ∷ xs) cs = refl

pub sum_more : (g : ℕ) (xs cs : List ℕ) (i : ℕ) → i < length xs → i < length cs
    → sum_at g (take (i + 1) xs) (take (i + 1) cs) ≡ sum_at g (take i xs) (take i cs) + cond (eqb (get_or xs i 0) g) (get_or cs i 0) 0
sum_more g [] cs i lx lc = absurd (omega arith)
sum_more g (x ∷ xs) [] i lx lc = absurd (omega arith)
sum_more g (x ∷ xs) (c ∷ cs) zero lx lc = let e = none_yet g xs cs in omega (arith, e)
sum_more g (x ∷ xs) (c ∷ cs) (suc i) lx lc =
    let h : sum_at g (take (i + 1) xs) (take (i + 1) cs) ≡ sum_at g (take i xs) (take i cs) + cond (eqb (get_or xs i 0) g) (get_or cs i 0) 0 = sum_more g xs cs i (omega arith) (omega arith) in
    let n : suc i + 1 ≡ suc (i + 1) = omega arith in
    rw n (omega (arith, h))

sum_is : (all : List Text) (h : Text → ℕ) (g : ℕ) (xs : List ℕ) → IsTextSet all → g < length all → All (λ x. x < length all) xs
    → sum_at g xs (map h (map (text_at all) xs)) ≡ count (same_text (text_at all g)) (map (text_at all) xs) * h (text_at all g)
sum_is all h g [] sorted lo a = omega arith
sum_is all h g (x ∷ xs) sorted lo a =
    let rest : sum_at g xs (map h (map (text_at all) xs)) ≡ count (same_text (text_at all g)) (map (text_at all) xs) * h (text_at all g) = sum_is all h g xs sorted lo (λ k d lt. a (suc k) d (omega arith)) in
    let test : eqb x g ≡ same_text (text_at all g) (text_at all x) = same_test all g x sorted lo (a 0 0 (omega arith)) in
    elim (cases_Bool (same_text (text_at all g) (text_at all x))) [
      | inl e ↦
          let same : h (text_at all g) ≡ h (text_at all x) = ap h ((bytes_eq-Decides (text_at all g) (text_at all x)).0 e) in
          let here : eqb x g ≡ true = test ∙ e in
          rw (here, e) (omega (arith, rest, same))
      | inr e ↦
          let away : eqb x g ≡ false = test ∙ e in
          rw (away, e) (omega (arith, rest))
    ]

pub same_has : (q : Text) (xs : List Text) → has q xs ≡ has_label q xs
same_has q [] = refl
same_has q (x ∷ xs) = ap (λ b. b || has q xs) (sym (texts_ties q x)) ∙ ap (λ b. same_text q x || b) (same_has q xs)

pub any_flat : (t : Text) (rows : List (List Text)) → has_label t (flat_map (λ labels. labels) rows) ≡ list_any (has_label t) rows
any_flat t [] = refl
any_flat t (row ∷ rows) = list_any-append (same_text t) row (flat_map (λ labels. labels) rows) ∙ ap (λ b. has_label t row || b) (any_flat t rows)

-- a dictionary has the labels that some row has
pub heard : (t : Text) (rows : List (List Text)) → has_label t (dictionary_of rows) ≡ list_any (has_label t) rows
heard t rows = sym (same_has t (dictionary_of rows)) ∙ has-sorted_set t (flat_map (λ labels. labels) rows) ∙ same_has t (flat_map (λ labels. labels) rows) ∙ any_flat t rows

pub none_counted : {X : Type 0} (p : X → Bool) (xs : List X) → list_any p xs ≡ false → count p xs ≡ 0
none_counted p [] e = refl
none_counted p (x ∷ xs) e = elim (cases_Bool (p x)) [
  | inl yes' ↦ let wrong : true ≡ false = rw yes' at e in absurd (cc)
  | inr no' ↦ let rest : list_any p xs ≡ false = rw no' at e in let h : count p xs ≡ 0 = none_counted p xs rest in rw no' (omega (arith, h))
]

-- the counts of a segment's labels, added at their global ordinals
pub all_counted : (all : List Text) (rows : List (List Text)) (globals : List ℕ) (g : ℕ) → IsTextSet all → IsTextSet (dictionary_of rows)
    → map (text_at all) globals ≡ dictionary_of rows → All (λ x. x < length all) globals → g < length all
    → sum_at g globals (map (λ t. label_count t rows) (dictionary_of rows)) ≡ label_count (text_at all g) rows
all_counted all rows globals g sorted set maps within lt =
    let t = text_at all g in
    let h : Text → ℕ = λ s. label_count s rows in
    let times : sum_at g globals (map h (dictionary_of rows)) ≡ one_if (has_label t (dictionary_of rows)) * h t =
    ap (λ ds. sum_at g globals (map h ds)) (sym maps) ∙ sum_is all h g globals sorted lt within
    ∙ ap (λ ds. count (same_text t) ds * h t) maps ∙ ap (λ n. n * h t) (once t (dictionary_of rows) set) in
    elim (cases_Bool (has_label t (dictionary_of rows))) [
      | inl there ↦ let one : sum_at g globals (map h (dictionary_of rows)) ≡ 1 * h t = times ∙ ap (λ b. one_if b * h t) there in omega (arith, one)
      | inr none ↦
          let zero' : sum_at g globals (map h (dictionary_of rows)) ≡ 0 * h t = times ∙ ap (λ b. one_if b * h t) none in
          let empty : h t ≡ 0 = sym (count-is (has_label t) rows) ∙ none_counted (has_label t) rows (sym (heard t rows) ∙ none) in
          omega (arith, zero', empty)
    ]

-- as many rows have a label as its postings are
pub length-postings : (t : Text) (rows : List (List Text)) → length (postings_of t rows) ≡ label_count t rows
length-postings t rows =
    let set = rows_having t rows in
    let same : length set ≡ length rows = length-map rows (has_label t) in
    sym (length-map (indices set) (λ i. get_or rows i [])) ∙ ap length (at_indices set rows [] same) ∙ sym (count-selected set rows same) ∙ count-map (λ b. b) (has_label t) rows
