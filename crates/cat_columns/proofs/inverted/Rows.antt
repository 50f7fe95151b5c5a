-- Which rows have a word, and which words a row has.
use Rattle.std.proofs.Common.{◌≡◌, ℕ, zero, suc, ◌+◌, ◌-◌, ◌<◌, ◌≤◌, List, [], ◌∷◌, length, get_or, take, drop, map, Bool, true, false, cond, ◌&&◌, ◌||◌, refl, sym, ap, ◌∙◌, arith, Less, nat_cmp, subst, replicate, eq-eqb, eqb-true}
use Rattle.std.proofs.lemmas.List.{length-map, length-replicate}
use Rattle.std.proofs.lemmas.List.FromFn.{fill_by_all, length-range_with_len, get_or-range_with_len, length-map-range_with_len, get_or-map-range_with_len}
use Rattle.std.proofs.lemmas.List.Elements.{All-from_recursion}
use Rattle.std.proofs.lemmas.List.Folds.{list_any_at}
use Rattle.std.proofs.lemmas.List.Sums.{length-filter, count_by-le-length}
use Rattle.std.proofs.lemmas.Map.Views.{any-filter_same}
use Rattle.std.proofs.lemmas.Map.Text.{is_eq-slice_cmp}
use Rattle.std.specs.Cmp.Lexicographic.{slice_cmp}
use Rattle.std.specs.List.{list_any, flat_map, filter, range_with_len, zip, AllByRecursion}
use Rattle.std.specs.List.Sorted.{IsStrictlySortedBy}
use Rattle.std.specs.Prelude.{All, ◌==◌, IfOk, Result, Ok, Err}
use Rattle.cat_base.specs.Texts.{IsTextSet}
use Rattle.cat_base.proofs.TextSets.{has, sorted_set_is}
use Rattle.cat_model.specs.Text.{Text, same_text}
use Rattle.cat_model.specs.RowSets.{has_row, indices, with_rows}
use Rattle.cat_model.specs.Ordinals.{dictionary_of, rows_having, postings_of}
use Rattle.cat_model.proofs.Lists.{All-kept, All-both, filter_alike, list_any-append}
use Rattle.cat_model.specs.Layout.{pieces}
use Rattle.cat_columns.specs.inverted.Postings.{is_among, IsPostings, IsPart, words_at, words_of_rows, IsTerms}
use Rattle.cat_columns.specs.inverted.Intervals.{IsInterval}
use Rattle.cat_columns.proofs.inverted.Parts.{joined, length-pieces}

pub if_ok : {X E : Type 0} (P Q : X → Type 0) → ((x : X) → P x → Q x) → (r : Result X E) → IfOk r P → IfOk r Q
if_ok P Q f (Ok x) h = f x h
if_ok P Q f (Err e) h = tt

-- ---- of lists

-- the two ways to ask whether a list has a text
pub same_has : (q : Text) (ts : List Text) → list_any (same_text q) ts ≡ has q ts
same_has q [] = refl
same_has q (t ∷ ts) = let here = is_eq-slice_cmp q t in let later = same_has q ts in rw (sym here, later) refl

pub any_mapped : {X Y : Type 0} (p : Y → Bool) (f : X → Y) (xs : List X) → list_any p (map f xs) ≡ list_any (λ x. p (f x)) xs
any_mapped p f [] = refl
any_mapped p f (x ∷ xs) = ap (λ b. p (f x) || b) (any_mapped p f xs)

pub any_kept : {X : Type 0} (p q : X → Bool) (xs : List X) → list_any p (filter q xs) ≡ list_any (λ x. p x && q x) xs
any_kept p q [] = refl
any_kept {X} p q (x ∷ xs) =
    elim (q x) as (λ b. list_any p (cond b (x ∷ filter q xs) (filter q xs)) ≡ ((p x && b) || list_any (λ y. p y && q y) xs)) [
      | true ↦ elim (p x) as (λ a. (a || list_any p (filter q xs)) ≡ ((a && true) || list_any (λ y. p y && q y) xs)) [ true ↦ refl | false ↦ any_kept p q xs ]
      | false ↦ any_kept p q xs ∙ elim (p x) as (λ a. list_any (λ y. p y && q y) xs ≡ ((a && false) || list_any (λ y. p y && q y) xs)) [ true ↦ refl | false ↦ refl ]
    ]

pub any_joined : {X Y : Type 0} (p : Y → Bool) (f : X → List Y) (xs : List X) → list_any p (flat_map (λ l. l) (map f xs)) ≡ list_any (λ x. list_any p (f x)) xs
any_joined p f [] = refl
any_joined p f (x ∷ xs) = list_any-append p (f x) (flat_map (λ l. l) (map f xs)) ∙ ap (λ b. list_any p (f x) || b) (any_joined p f xs)

any_or : {X : Type 0} (f g : X → Bool) (xs : List X) → list_any (λ x. f x || g x) xs ≡ (list_any f xs || list_any g xs)
any_or f g [] = refl
any_or f g (x ∷ xs) = ap (λ b. (f x || g x) || b) (any_or f g xs) ∙ crossed (f x) (g x) (list_any f xs) (list_any g xs)
  where
    crossed : (a b c d : Bool) → ((a || b) || (c || d)) ≡ ((a || c) || (b || d))
    crossed true b c d = refl
    crossed false true true d = refl
    crossed false true false d = refl
    crossed false false c d = refl

any_and : {X : Type 0} (b : Bool) (f : X → Bool) (xs : List X) → list_any (λ x. b && f x) xs ≡ (b && list_any f xs)
any_and true f xs = refl
any_and false f [] = refl
any_and false f (x ∷ xs) = any_and false f xs

any_nowhere : {X : Type 0} (xs : List X) → list_any (λ x. false) xs ≡ false
any_nowhere [] = refl
any_nowhere (x ∷ xs) = any_nowhere xs

some_kept : {X : Type 0} (f : X → Bool) (xs : List X) → 0 < length (filter f xs) → list_any f xs ≡ true
some_kept f [] lt = absurd (omega arith)
some_kept f (x ∷ xs) lt =
    (elim (f x) as (λ b. 0 < length (cond b (x ∷ filter f xs) (filter f xs)) → (b || list_any f xs) ≡ true) [
      | true ↦ λ h. refl
      | false ↦ λ h. some_kept f xs h
    ]) lt

-- ---- of rows by their number

pub each_row : (P : ℕ → Type 0) (a n : ℕ) → ((k : ℕ) → a ≤ k → k < a + n → P k) → AllByRecursion P (range_with_len a n)
each_row P a zero h = tt
each_row P a (suc n) h = (h a (omega arith) (omega arith), each_row P (a + 1) n (λ k le lt. h k (omega arith) (omega arith)))

any_row : (a n k : ℕ) → a ≤ k → k < a + n → list_any (λ r. r == k) (range_with_len a n) ≡ true
any_row a n k le lt =
    let at : a + (k - a) ≡ k = omega arith in
    let inside : k - a < length (range_with_len a n) = rw length-range_with_len (omega arith) in
    list_any_at (λ r. r == k) (range_with_len a n) (k - a) 0 inside (eq-eqb _ _ (get_or-range_with_len a n (k - a) 0 (omega arith) ∙ at))

-- a row is among those that a test keeps of all rows, where the test holds of it
pub among_kept : (f : ℕ → Bool) (n k : ℕ) → k < n → is_among (filter f (range_with_len 0 n)) k ≡ f k
among_kept f n k lt =
    any-filter_same (λ r. r == k) f (f k) (λ r e. ap f (eqb-true r k e)) (range_with_len 0 n)
    ∙ ap (λ b. f k && b) (any_row 0 n k (omega arith) (omega arith)) ∙ alone (f k)
  where
    alone : (b : Bool) → (b && true) ≡ b
    alone true = refl
    alone false = refl

-- what a test keeps of all rows are rows each once, rising
pub kept_are_postings : (f : ℕ → Bool) (n : ℕ) → IsPostings n (filter f (range_with_len 0 n))
kept_are_postings f n = filter_alike f (is_among (filter f (range_with_len 0 n))) (range_with_len 0 n) (each_row _ 0 n (λ k le lt. sym (among_kept f n k (omega arith))))

-- the places of the rows that a test tells
pub places_of_test : (f : ℕ → Bool) (n : ℕ) → indices (map f (range_with_len 0 n)) ≡ filter f (range_with_len 0 n)
places_of_test f n =
    ap (λ k. filter (has_row (map f (range_with_len 0 n))) (range_with_len 0 k)) (length-map-range_with_len f 0 n)
    ∙ filter_alike (has_row (map f (range_with_len 0 n))) f (range_with_len 0 n) (each_row _ 0 n (λ k le lt. get_or-map-range_with_len f 0 n k k false (omega arith) (omega arith)))

has_none : (n row : ℕ) → has_row (replicate n false) row ≡ false
has_none zero row = refl
has_none (suc n) zero = refl
has_none (suc n) (suc row) = has_none n row

-- the rows of these places and no other
pub with_rows_of_none : (rows : List ℕ) (n : ℕ) → with_rows rows (replicate n false) ≡ map (is_among rows) (range_with_len 0 n)
with_rows_of_none rows n =
    ap (λ k. map (λ row. has_row (replicate n false) row || is_among rows row) (range_with_len 0 k)) (length-replicate n false)
    ∙ map_alike (λ row. has_row (replicate n false) row || is_among rows row) (is_among rows) (λ row. ap (λ b. b || is_among rows row) (has_none n row)) (range_with_len 0 n)
  where
    map_alike : (f g : ℕ → Bool) → ((k : ℕ) → f k ≡ g k) → (ks : List ℕ) → map f ks ≡ map g ks
    map_alike f g h [] = refl
    map_alike f g h (k ∷ ks) = let here = h k in let later = map_alike f g h ks in cc

-- ---- of the words of a row

words_any : (p : Text → Bool) (words : List Text) (parts : List (List ℕ)) (row : ℕ) → list_any p (words_at words parts row) ≡ list_any (λ e. p e.0 && is_among e.1 row) (zip words parts)
words_any p words parts row = any_mapped p (λ e. e.0) (filter (λ e. is_among e.1 row) (zip words parts)) ∙ any_kept (λ e. p e.0) (λ e. is_among e.1 row) (zip words parts)

later_first : (p : Text → Bool) (w : Text) (words : List Text) (f count : ℕ) → IsInterval p (w ∷ words) (suc f) count → IsInterval p words f count
later_first p w words f count h = record {
  before = λ o a b. h.before (suc o) (omega arith) (omega arith);
  inside = λ o a b l. h.inside (suc o) (omega arith) (omega arith) (omega arith);
  after = λ o a b. h.after (suc o) (omega arith) (omega arith);
}

later_inside : (p : Text → Bool) (w : Text) (words : List Text) (n : ℕ) → IsInterval p (w ∷ words) zero (suc n) → IsInterval p words zero n
later_inside p w words n h = record {
  before = λ o a b. absurd (omega arith);
  inside = λ o a b l. h.inside (suc o) (omega arith) (omega arith) (omega arith);
  after = λ o a b. h.after (suc o) (omega arith) (omega arith);
}

later_after : (p : Text → Bool) (w : Text) (words : List Text) → IsInterval p (w ∷ words) zero zero → IsInterval p words zero zero
later_after p w words h = record {
  before = λ o a b. absurd (omega arith);
  inside = λ o a b l. absurd (omega arith);
  after = λ o a b. h.after (suc o) (omega arith) (omega arith);
}

none_joined : (first count row : ℕ) → false ≡ is_among (joined (take count (drop first []))) row
none_joined zero zero row = refl
none_joined zero (suc n) row = refl
none_joined (suc f) zero row = refl
none_joined (suc f) (suc n) row = refl

-- a row has a word of the interval where it is among the rows of the interval's words
interval_any : (p : Text → Bool) (words : List Text) (parts : List (List ℕ)) (first count row : ℕ) → IsInterval p words first count → length parts ≡ length words
    → list_any (λ e. p e.0 && is_among e.1 row) (zip words parts) ≡ is_among (joined (take count (drop first parts))) row
interval_any p [] [] first count row h e = none_joined first count row
interval_any p [] (r ∷ parts) first count row h e = absurd (omega arith)
interval_any p (w ∷ words) [] first count row h e = absurd (omega arith)
interval_any p (w ∷ words) (r ∷ parts) (suc f) count row h e =
    ap (λ b. (b && is_among r row) || list_any (λ x. p x.0 && is_among x.1 row) (zip words parts)) (h.before 0 (omega arith) (omega arith))
    ∙ interval_any p words parts f count row (later_first p w words f count h) (omega arith)
interval_any p (w ∷ words) (r ∷ parts) zero (suc n) row h e =
    ap (λ b. (b && is_among r row) || list_any (λ x. p x.0 && is_among x.1 row) (zip words parts)) (h.inside 0 (omega arith) (omega arith) (omega arith))
    ∙ ap (λ b. is_among r row || b) (interval_any p words parts zero n row (later_inside p w words n h) (omega arith))
    ∙ sym (list_any-append (λ x. x == row) r (joined (take n parts)))
interval_any p (w ∷ words) (r ∷ parts) zero zero row h e =
    ap (λ b. (b && is_among r row) || list_any (λ x. p x.0 && is_among x.1 row) (zip words parts)) (h.after 0 (omega arith) (omega arith))
    ∙ interval_any p words parts zero zero row (later_after p w words h) (omega arith)

-- the rows that have a word of the interval
pub rows_of_interval : (p : Text → Bool) (len : ℕ) (words : List Text) (parts : List (List ℕ)) (first count : ℕ) → IsInterval p words first count → length parts ≡ length words
    → map (list_any p) (words_of_rows len words parts) ≡ map (is_among (joined (take count (drop first parts)))) (range_with_len 0 len)
rows_of_interval p len words parts first count h e = each (range_with_len 0 len)
  where
    each : (rows : List ℕ) → map (list_any p) (map (words_at words parts) rows) ≡ map (is_among (joined (take count (drop first parts)))) rows
    each [] = refl
    each (row ∷ rows) = let here = words_any p words parts row ∙ interval_any p words parts first count row h e in let later = each rows in cc

-- ---- of the words of all rows

swapped : (p : Text → Bool) (es : List (Text × List ℕ)) (rows : List ℕ)
    → list_any (λ row. list_any (λ e. p e.0 && is_among e.1 row) es) rows ≡ list_any (λ e. p e.0 && list_any (is_among e.1) rows) es
swapped p [] rows = any_nowhere rows
swapped p (e ∷ es) rows =
    any_or (λ row. p e.0 && is_among e.1 row) (λ row. list_any (λ x. p x.0 && is_among x.1 row) es) rows
    ∙ ap (λ b. b || list_any (λ row. list_any (λ x. p x.0 && is_among x.1 row) es) rows) (any_and (p e.0) (is_among e.1) rows)
    ∙ ap (λ b. (p e.0 && list_any (is_among e.1) rows) || b) (swapped p es rows)

each_word : (p : Text → Bool) (test : List ℕ → Bool) (words : List Text) (parts : List (List ℕ)) → length parts ≡ length words → All (λ part. test part ≡ true) parts
    → list_any (λ e. p e.0 && test e.1) (zip words parts) ≡ list_any p words
each_word p test [] parts e all = refl
each_word p test (w ∷ words) [] e all = absurd (omega arith)
each_word p test (w ∷ words) (r ∷ parts) e all =
    ap (λ b. (p w && b) || list_any (λ x. p x.0 && test x.1) (zip words parts)) (all 0 r (omega arith))
    ∙ ap (λ b. (p w && true) || b) (each_word p test words parts (omega arith) (λ k d lt. all (suc k) d (omega arith)))
    ∙ ap (λ b. b || list_any p words) (alone (p w))
  where
    alone : (b : Bool) → (b && true) ≡ b
    alone true = refl
    alone false = refl

any_alike : {X : Type 0} (f g : X → Bool) → ((x : X) → f x ≡ g x) → (xs : List X) → list_any f xs ≡ list_any g xs
any_alike f g h [] = refl
any_alike f g h (x ∷ xs) = let here = h x in let later = any_alike f g h xs in cc

posted : (len : ℕ) (part : List ℕ) → IsPart len part → list_any (is_among part) (range_with_len 0 len) ≡ true
posted len part h = some_kept (is_among part) (range_with_len 0 len) (subst (λ (l : List ℕ). 0 < length l) h.1 h.0)

-- the words are those that some row has
pub words_are : (len : ℕ) (words : List Text) (ends rows : List ℕ) → IsTerms len words ends rows → words ≡ dictionary_of (words_of_rows len words (pieces 0 ends rows))
words_are len words ends rows h =
    sorted_set_is (flat_map (λ texts. texts) (words_of_rows len words parts)) words h.sorted (λ q. sym (same_has q _) ∙ members q ∙ same_has q words)
  where
    parts : List (List ℕ)
    parts = pieces 0 ends rows

    all_posted : All (λ part. list_any (is_among part) (range_with_len 0 len) ≡ true) parts
    all_posted k d lt = posted len (get_or parts k d) (h.posted k d lt)

    members : (q : Text) → list_any (same_text q) (flat_map (λ texts. texts) (words_of_rows len words parts)) ≡ list_any (same_text q) words
    members q =
        any_joined (same_text q) (words_at words parts) (range_with_len 0 len)
        ∙ any_alike (λ row. list_any (same_text q) (words_at words parts row)) (λ row. list_any (λ e. same_text q e.0 && is_among e.1 row) (zip words parts)) (words_any (same_text q) words parts) (range_with_len 0 len)
        ∙ swapped (same_text q) (zip words parts) (range_with_len 0 len)
        ∙ each_word (same_text q) (λ part. list_any (is_among part) (range_with_len 0 len)) words parts (length-pieces 0 ends rows ∙ h.paired) all_posted

all_kept : (P : Text → Type 0) (test : List ℕ → Bool) (words : List Text) (parts : List (List ℕ)) → AllByRecursion P words → AllByRecursion P (map (λ e. e.0) (filter (λ e. test e.1) (zip words parts)))
all_kept P test [] parts a = tt
all_kept P test (w ∷ words) [] a = tt
all_kept P test (w ∷ words) (r ∷ parts) a =
    elim (test r) as (λ b. AllByRecursion P (map (λ e. e.0) (cond b ((w, r) ∷ filter (λ e. test e.1) (zip words parts)) (filter (λ e. test e.1) (zip words parts))))) [
      | true ↦ (a.0, all_kept P test words parts a.1)
      | false ↦ all_kept P test words parts a.1
    ]

set_kept : (test : List ℕ → Bool) (words : List Text) (parts : List (List ℕ)) → IsTextSet words → IsTextSet (map (λ e. e.0) (filter (λ e. test e.1) (zip words parts)))
unfolding IsStrictlySortedBy
set_kept test [] parts a = tt
set_kept test (w ∷ words) [] a = tt
set_kept test (w ∷ words) (r ∷ parts) a =
    elim (test r) as (λ b. IsTextSet (map (λ e. e.0) (cond b ((w, r) ∷ filter (λ e. test e.1) (zip words parts)) (filter (λ e. test e.1) (zip words parts))))) [
      | true ↦ (all_kept (λ y. slice_cmp nat_cmp w y ≡ Less) test words parts a.0, set_kept test words parts a.1)
      | false ↦ set_kept test words parts a.1
    ]

-- the words of each row are a set
pub rows_are_sets : (len : ℕ) (words : List Text) (parts : List (List ℕ)) → IsTextSet words → All IsTextSet (words_of_rows len words parts)
rows_are_sets len words parts sorted k d lt =
    let inside : k < len = omega (arith, length-map-range_with_len (words_at words parts) 0 len) in
    subst IsTextSet (sym (get_or-map-range_with_len (words_at words parts) 0 len k k d inside (omega arith))) (set_kept (λ part. is_among part k) words parts sorted)

-- ---- of rows below the length

pub kept_below : (f : ℕ → Bool) (len : ℕ) → AllByRecursion (λ r. r < len) (filter f (range_with_len 0 len))
kept_below f len = All-kept (λ r. r < len) f (range_with_len 0 len) (each_row (λ r. r < len) 0 len (λ k le lt. omega arith))

joined_below : (len : ℕ) (parts : List (List ℕ)) (first count : ℕ) → All (IsPart len) parts → AllByRecursion (λ r. r < len) (joined (take count (drop first parts)))
joined_below len [] zero zero h = tt
joined_below len [] zero (suc n) h = tt
joined_below len [] (suc f) zero h = tt
joined_below len [] (suc f) (suc n) h = tt
joined_below len (r ∷ parts) (suc f) count h = joined_below len parts f count (λ k d lt. h (suc k) d (omega arith))
joined_below len (r ∷ parts) zero zero h = tt
joined_below len (r ∷ parts) zero (suc n) h =
    All-both (λ x. x < len) r (joined (take n parts))
    (subst (AllByRecursion (λ x. x < len)) (sym (h 0 r (omega arith)).1) (kept_below (is_among r) len))
    (joined_below len parts zero n (λ k d lt. h (suc k) d (omega arith)))

-- the rows of words are below the length
pub parts_below : (len : ℕ) (parts : List (List ℕ)) (first count : ℕ) → All (IsPart len) parts → All (λ r. r < len) (joined (take count (drop first parts)))
parts_below len parts first count h = All-from_recursion (λ r. r < len) (joined (take count (drop first parts))) (joined_below len parts first count h)

-- the places in a set are below its length
pub places_below : (set : List Bool) → All (λ r. r < length set) (indices set)
places_below set = All-from_recursion (λ r. r < length set) (indices set) (kept_below (has_row set) (length set))

-- a word has at most as many postings as there are rows
pub few_postings : (word : Text) (texts : List (List Text)) → length (postings_of word texts) ≤ length texts
few_postings word texts =
    let set = rows_having word texts in
    omega (arith, length-filter (has_row set) (range_with_len 0 (length set)), count_by-le-length (has_row set) (range_with_len 0 (length set)), length-range_with_len 0 (length set), length-map texts (list_any (same_text word)))

-- a set is told by its places
pub set_of_places : (set : List Bool) → set ≡ map (is_among (indices set)) (range_with_len 0 (length set))
set_of_places set = fill_by_all (is_among (indices set)) set (length set) false refl (λ k lt. sym (among_kept (has_row set) (length set) k lt))
